-- The loop's invariant: the first k places are filled.
use Rattle.geometry.specs.Parts.{number_at, Filled}
use Rattle.plan_steps.proofs.distances.in_order.Given as goal

abbrev pub invariant-loop-k : goal.invariant-loop-k
invariant-loop-k l = Filled 32 0 (λ i. number_at l.at (number_at l.order i)) l.k l.r
