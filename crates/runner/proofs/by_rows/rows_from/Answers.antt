use Prim.Native.Nat.{◌+◌, ◌≤◌}
use native.Mathlib.Omega.{arith}
use lib.ListN.{length}
use Rattle.runner.proofs.FitLaws.{small_fits}
use Rattle.runner.proofs.RowTableLaws.{few_rows}
use Rattle.runner.proofs.RowCallLaws.{rows_done, at_row, row_counts, rows_on, rows_stopped}
use Rattle.runner.proofs.by_rows.rows_from.Goals as goal
use Rattle.runner.proofs.by_rows.rows_from.Goals.{After-of_row-s}

pub entry-from-requires : goal.entry-from-requires
entry-from-requires c = let P = c.requires.row_call in omega (arith, few_rows P.1.tables, c.loop-v-test.true)

pub entry-upto-requires : goal.entry-upto-requires
entry-upto-requires c = let P = c.requires.row_call in omega (arith, few_rows P.1.tables, c.loop-v-test.true)

pub of_row-s-requires : goal.of_row-s-requires
of_row-s-requires c =
    let P = c.requires.row_call in
    (P.0, P.1.tables, at_row P.1 c.width-width.ensures (c.loop-v.invariant P.0 P.1) c.loop-v-test.true c.entry-from.ensures c.entry-upto.ensures)

-- What the numbers come to with the row's clocks.
counts-after : (o : After-of_row-s) →
    let s = o.of_row-s.result in
    (o.loop-v.taken + s.taken ≤ length o.args.cells.now) × (o.loop-v.made + s.clocks ≤ o.args.allowance) × (o.loop-v.firings + s.firings ≤ o.loop-v.made + s.clocks)
    × (o.args.fired0 + (o.loop-v.firings + s.firings) ≤ 1048576)
counts-after o =
    let P = o.requires.row_call in
    let w = o.width-width.ensures in
    let G = o.loop-v.invariant P.0 P.1 in
    let v = o.loop-v-test.true in
    let from = o.entry-from.ensures in
    let upto = o.entry-upto.ensures in
    row_counts P.1 w G v from upto (o.of_row-s.ensures P.0 P.1.tables (at_row P.1 w G v from upto))

pub overflow_add-taken : goal.overflow_add-taken
overflow_add-taken c = record { fits = omega (arith, (counts-after (goal.at.overflow_add-taken c).After-of_row-s).0) }

pub overflow_add-made : goal.overflow_add-made
overflow_add-made c = record { fits = omega (arith, (counts-after (goal.at.overflow_add-made c).After-of_row-s).1) }

pub overflow_add-firings : goal.overflow_add-firings
overflow_add-firings c = record { fits = omega (arith, (counts-after (goal.at.overflow_add-firings c).After-of_row-s).2, (counts-after (goal.at.overflow_add-firings c).After-of_row-s).1) }

pub overflow_add-fired0-in-loop-v : goal.overflow_add-fired0-in-loop-v
overflow_add-fired0-in-loop-v c = small_fits _ (omega (arith, (counts-after (goal.at.overflow_add-fired0-in-loop-v c).After-of_row-s).3))

pub returns-then-fired0-firings : goal.returns-then-fired0-firings
returns-then-fired0-firings c =
    λ t R.
    let w = c.width-width.ensures in
    let G = c.loop-v.invariant t R in
    let v = c.loop-v-test.true in
    let from = c.entry-from.ensures in
    let upto = c.entry-upto.ensures in
    let S = c.of_row-s.ensures t R.tables (at_row R w G v from upto) in
    rows_stopped R w G v from upto S c.if-fired0-firings.true

pub loop-v-preserved : goal.loop-v-preserved
loop-v-preserved c =
    λ t R.
    let w = c.width-width.ensures in
    let G = c.loop-v.invariant t R in
    let v = c.loop-v-test.true in
    let from = c.entry-from.ensures in
    let upto = c.entry-upto.ensures in
    let S = c.of_row-s.ensures t R.tables (at_row R w G v from upto) in
    rows_on R w G v from upto S c.if-fired0-firings.false c.of_row-s.auto.store c.of_row-s.auto.out

pub returns : goal.returns
returns c = λ t R. rows_done R c.width-width.ensures (c.loop-v.invariant t R) c.loop-v-test.false
