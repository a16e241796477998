-- The loop's invariant: the spans from dimension d on are filled, and `behind` is the product of the extents from d on.
use Prim.Native.Nat.{ℕ, ◌+◌, ◌≤◌, ◌<◌}
use mathlib.Core.Path.{◌≡◌}
use lib.ListN.{length}
use Rattle.model.specs.Lists.{product}
use Rattle.geometry.specs.Parts.{part}
use Rattle.run_prepare.specs.Prepared.{number_at}
use Rattle.run_prepare.proofs.spans_of.Given as goal

abbrev pub invariant-loop-d : goal.invariant-loop-d
invariant-loop-d l =
    (length l.spans ≡ 4) × (l.behind ≡ product (part (number_at l.extents) l.d l.dims))
    × ((i : ℕ) → l.d ≤ i → i < l.dims → number_at l.spans i ≡ product (part (number_at l.extents) (i + 1) l.dims))
