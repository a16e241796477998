-- The loop's invariant: the first k places are filled.
use Prim.Native.Nat.{◌+◌}
use Rattle.geometry.specs.Parts.{number_at, Filled}
use Rattle.shape.proofs.boxed.further.Given as goal

abbrev pub invariant-loop-k : goal.invariant-loop-k
invariant-loop-k l = Filled 32 0 (λ i. number_at l.at i + l.cells) l.k l.r
