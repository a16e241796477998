use Rattle.model.specs.Values.{rows_of}
use Rattle.rows.specs.Boxing.{Spans}
use Rattle.rows.proofs.boxed.rows_hold.Given as goal

abbrev pub invariant-loop-u : goal.invariant-loop-u
invariant-loop-u l = Spans (rows_of l.count l.rows) l.down l.on l.n l.from l.u l.left l.right
