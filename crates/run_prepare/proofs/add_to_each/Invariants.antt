use Prim.Native.Nat.{◌+◌}
use Rattle.run_prepare.specs.Prepared.{number_at, Filled}
use Rattle.run_prepare.proofs.add_to_each.Given as goal

abbrev pub invariant-loop-k : goal.invariant-loop-k
invariant-loop-k l =
    Filled l.initial.to (λ i. number_at l.from i + l.x) l.k l.to
