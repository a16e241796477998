-- The loop's invariant: `at`, and what the entries from d on add, make the position.
use Prim.Native.Nat.{ℕ, ◌+◌, ◌*◌}
use mathlib.Core.Path.{◌≡◌}
use mathlib.Core.List.{List}
use lib.IntN.{ℤ, pos}
use lib.ListN.{get_or}
use Rattle.model.specs.Lists.{sum}
use Rattle.model.specs.Vectors.{above}
use Rattle.geometry.specs.Parts.{part, number_at, entry_at, place_by}
use Rattle.shape.proofs.place_of.Given as goal

-- How many cells the entry of dimension d skips.
abbrev pub steps : List ℤ → List ℤ → List ℕ → (k d : ℕ) → ℕ
steps offsets lows strides k d = above (entry_at offsets k d) (get_or lows d (pos 0)) * number_at strides d

abbrev pub invariant-loop-d : goal.invariant-loop-d
invariant-loop-d l =
    l.at + sum (part (steps l.offsets l.lows l.strides l.k) l.d l.dims) ≡ place_by l.dims l.lows l.strides l.offsets l.k
