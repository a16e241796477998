-- The loop's invariant: the first d places are filled.
use Prim.Native.Nat.{◌+◌}
use Rattle.model.specs.Lists.{product}
use Rattle.geometry.specs.Parts.{part, number_at, Filled}
use Rattle.shape.proofs.strides_of.Given as goal

abbrev pub invariant-loop-d : goal.invariant-loop-d
invariant-loop-d l =
    Filled 4 0 (λ i. product (part (number_at l.sizes) (i + 1) l.dims)) l.d l.strides
