-- `row_clocks` makes the clocks of the call. Assumes nothing.
use native.Mathlib.Omega.{arith}
use Rattle.runner.proofs.RowTableLaws.{few_rows}
use Rattle.runner.proofs.RowCallLaws.{rows_none, row_found}
use Rattle.runner.proofs.by_rows.row_clocks.Goals as goal

pub entry-requires : goal.entry-requires
entry-requires c = let R = c.requires.1 in omega (arith, few_rows R.tables)

pub returns-then-entry-fired0 : goal.returns-then-entry-fired0
returns-then-entry-fired0 c = λ t R. rw c.no_clocks.ensures (rows_none R _ _ _ (omega (arith, c.entry.ensures, c.if-entry-fired0.true)))

pub rows_from-requires-clause-lies_in : goal.rows_from-requires-clause-lies_in
rows_from-requires-clause-lies_in c =
    let P = c.requires in
    row_found P.1 (omega (arith, c.entry.ensures, c.if-entry-fired0.false)) c.row_of-v.ensures
