use Rattle.run_prepare.specs.Prepared.{Widened}
use Rattle.run_prepare.proofs.widen.Given as goal

abbrev pub invariant-loop-k : goal.invariant-loop-k
invariant-loop-k g l = Widened g.row.M l.from l.k l.to
