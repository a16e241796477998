-- 11 turns the state back, or the tables are those of the call. Assumes nothing.
use mathlib.Core.Path.{sym, ◌∙◌}
use Rattle.run_prepare.specs.RowsReady.{in_rows}
use Rattle.run_prepare.proofs.ReadyLaws.{judged_bad}
use Rattle.run_prepare.proofs.RowsLaws.{found_counted, found_read, rows_readied, rows_refused}
use Rattle.run_prepare.proofs.skewed.with_store.Goals as goal

pub take_up_rows-requires : goal.take_up_rows-requires
take_up_rows-requires c =
    let ok = c.requires.1.accepted in
    let cells = c.cells_above.ensures in
    let rows = c.iterations_above.ensures in
    (c.requires.1.small, (_, found_counted c.args.chain _ ok c.args.found c.requires.0 _ _ cells rows, found_read c.args.chain _ ok c.args.found c.requires.0 _ _ cells rows))

pub returns-then-take_up_rows : goal.returns-then-take_up_rows
returns-then-take_up_rows c =
    let ok = c.requires.1.accepted in
    let cells = c.cells_above.ensures in
    let rows = c.iterations_above.ensures in
    λ bases tops store T.
    rows_refused (in_rows c.args.chain) _ _ _ _ _ _ _ _ _ _
    (judged_bad (in_rows c.args.chain) _ _ _ ok T.long
    (sym (c.take_up_rows.ensures _ (found_counted c.args.chain _ ok c.args.found c.requires.0 _ _ cells rows) (found_read c.args.chain _ ok c.args.found c.requires.0 _ _ cells rows) T.capable.capped).1.bad_is
    ∙ c.if-take_up_rows.true))

pub returns : goal.returns
returns c =
    let ok = c.requires.1.accepted in
    let cells = c.cells_above.ensures in
    let rows = c.iterations_above.ensures in
    λ bases tops store T.
    rows_readied c.args.chain _ ok c.args.found c.requires.0 _ _ cells rows _ _ _ _ _ _ _ _ T
    (c.take_up_rows.ensures _ (found_counted c.args.chain _ ok c.args.found c.requires.0 _ _ cells rows) (found_read c.args.chain _ ok c.args.found c.requires.0 _ _ cells rows) T.capable.capped).1
    c.if-take_up_rows.false
