-- `of_row` makes the clocks of the row's stretch. Assumes nothing.
use Rattle.runner.proofs.RowTableLaws.{row_none, at_small, row_stretching}
use Rattle.runner.proofs.by_rows.of_row.Goals as goal

pub returns-then-length-fired : goal.returns-then-length-fired
returns-then-length-fired c = λ t T A. rw c.no_clocks.ensures (row_none T A.below A c.if-length-fired.true _ _ _)

pub advance-requires-clause-by_index : goal.advance-requires-clause-by_index
advance-requires-clause-by_index c =
    let P = c.requires in
    at_small P.1 P.2.below c.reads.ensures P.2 c.if-length-fired.false

pub stretch_clocks-requires : goal.stretch_clocks-requires
stretch_clocks-requires c =
    let P = c.requires in
    record { layout = _; write = _; stretching = row_stretching P.1 P.2.below c.reads.ensures P.2 c.if-length-fired.false c.advance.ensures }

pub returns : goal.returns
returns c =
    λ t T A. c.stretch_clocks.ensures _ _ (row_stretching T A.below c.reads.ensures A c.if-length-fired.false c.advance.ensures)
