use Prim.Native.Nat.{◌-◌}
use Rattle.pair_run.proofs.EitherLaws.{Rounds}
use Rattle.pair_run.proofs.rounds.in_rounds.Given as goal

abbrev pub invariant-loop-raw : goal.invariant-loop-raw
invariant-loop-raw l =
    Rounds l.raw l.rows l.n l.most l.block l.first l.second l.initial.store l.cells l.initial.out l.initial.other l.allowance l.initial.batch l.initial.state l.store l.out l.other l.batch l.state l.taken l.clocks l.fired

abbrev pub decreases-loop-raw : goal.decreases-loop-raw
decreases-loop-raw l =
    l.most - l.fired
