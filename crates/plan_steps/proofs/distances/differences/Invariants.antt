-- The loop's invariant: the first k places are filled.
use Prim.Native.Nat.{◌+◌, ◌-◌}
use Rattle.geometry.specs.Parts.{number_at, Filled}
use Rattle.plan_steps.proofs.distances.differences.Given as goal

abbrev pub invariant-loop-k : goal.invariant-loop-k
invariant-loop-k l = Filled 31 0 (λ i. number_at l.at i - number_at l.at (i + 1)) l.k l.r
