-- The loop's invariant: p is the product from place d on.
use Prim.Native.Nat.{◌≤◌}
use mathlib.Core.Path.{◌≡◌}
use Rattle.model.specs.Lists.{product}
use Rattle.geometry.specs.Parts.{part, number_at}
use Rattle.shape.proofs.product.Given as goal

abbrev pub invariant-loop-d : goal.invariant-loop-d
invariant-loop-d l =
    (l.from ≤ l.d) × (l.p ≡ product (part (number_at l.xs) l.d l.to))
