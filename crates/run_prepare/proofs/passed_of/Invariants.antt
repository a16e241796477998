use Prim.Native.Nat.{ℕ, ◌<◌}
use Rattle.run_prepare.specs.Prepared.{number_at, Filled, counter_at}
use Rattle.run_prepare.proofs.passed_of.Given as goal

abbrev pub invariant-loop-k : goal.invariant-loop-k
invariant-loop-k l =
    Filled l.initial.to (counter_at l.state.passed) l.k l.to × ((i : ℕ) → i < l.k → number_at l.to i < 4294967296)
