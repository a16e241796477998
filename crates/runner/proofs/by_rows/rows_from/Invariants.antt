-- `rows_from` makes the clocks of the call, row by row. Assumes nothing.
use Rattle.model.specs.Values.{Trimmed}
use Rattle.runner.specs.ByRows.{RowCall, RowsGone}
use Rattle.runner.proofs.by_rows.rows_from.Given as goal

abbrev pub invariant-loop-v : goal.invariant-loop-v
invariant-loop-v l =
    (t : Trimmed) → RowCall t l.kernel l.order l.n l.count l.size l.centre l.course l.rows l.above l.iterations l.caps l.bases l.tops l.fired0 l.initial.passed l.initial.store
    → RowsGone t l.n l.count l.rows l.course l.width l.fired0 l.initial.passed l.initial.store l.cells l.initial.out l.allowance l.v l.taken l.made l.firings l.passed l.store l.out
