-- The loop's invariant: the first k places are filled.
use Rattle.geometry.specs.Parts.{Filled}
use Rattle.pair_plan.proofs.rising_order.Given as goal

abbrev pub invariant-loop-k : goal.invariant-loop-k
invariant-loop-k l = Filled 32 0 (λ i. i) l.k l.filters
