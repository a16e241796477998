-- Rectangles by their sizes, as the laws of rectangles speak of them: positions, all iterations and what is read there.
use Prim.Native.Nat.{ℕ, suc, ◌-◌}
use mathlib.Core.Bool.{Bool, ◌&&◌}
use mathlib.Core.List.{List, [], map}
use lib.Dec.{eqb}
use lib.ListN.{length, get_or}
use lib.IntN.{ℤ, neg_ℤ}
use Rattle.model.specs.Lists.{product, all}
use Rattle.model.specs.Vectors.{plus}
use Rattle.model.specs.Geometry.{place, natural, inside, lows, extents, indices, counted_from}

-- The position of a cell that is given by its index vector.
unfoldable pub position : List ℕ → List ℤ → ℕ
position sizes v = place sizes (map natural v)

-- The vector added to each offset stays inside.
unfoldable pub is_iteration : List ℕ → List (List ℤ) → List ℤ → Bool
is_iteration sizes offsets v = eqb (length v) (length sizes) && all (λ o. inside sizes (plus v o)) offsets

-- How many iterations there are, and number j of them.
unfoldable pub iteration_count : List ℕ → List (List ℤ) → ℕ
iteration_count sizes offsets = product (extents sizes offsets)

unfoldable pub iteration : List ℕ → List (List ℤ) → ℕ → List ℤ
iteration sizes offsets j = counted_from (map neg_ℤ (lows sizes offsets)) (indices (extents sizes offsets) j)

-- The position that reference k reads in iteration j, and how far reference k + 1 reads behind it in the first.
unfoldable pub reads : List ℕ → List (List ℤ) → (j k : ℕ) → ℕ
reads sizes offsets j k = position sizes (plus (iteration sizes offsets j) (get_or offsets k []))

unfoldable pub distance : List ℕ → List (List ℤ) → ℕ → ℕ
distance sizes offsets k = reads sizes offsets 0 k - reads sizes offsets 0 (suc k)
