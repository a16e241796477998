-- Rectangles and windows (document 01, "Grid, window, distances"). `sizes`: the rectangle's, slowest dimension first;
-- `offsets`: one vector a reference.
use Rattle.std.specs.Prelude.{ℕ, ◌+◌, ◌-◌, ◌*◌, ◌/◌, ◌%◌, Bool, true, false, cond, ◌&&◌, List, [], ◌∷◌, map, ℤ, pos, negsuc}
use Rattle.std.specs.Int.Signed.{lt_z, le_z}
use Rattle.model.specs.Lists.{product, greatest}
use Rattle.model.specs.Vectors.{above, plus}

-- "Its cells are .. streamed in lexicographic order, last index fastest": how many there are.
unfoldable pub cell_count : List ℕ → ℕ
cell_count sizes = product sizes

-- A cell's row-major place, from 0.
unfoldable pub place : List ℕ → List ℕ → ℕ
place [] xs = 0
place (s ∷ ss) [] = 0
place (s ∷ ss) (x ∷ xs) = x * cell_count ss + place ss xs

-- A whole number that is not negative, as a natural one.
unfoldable pub natural : ℤ → ℕ
natural (pos n) = n
natural (negsuc n) = 0

-- The vector is the index of a cell.
unfoldable pub inside : List ℕ → List ℤ → Bool
inside [] [] = true
inside [] (x ∷ xs) = false
inside (s ∷ ss) [] = false
inside (s ∷ ss) (x ∷ xs) = le_z (pos 0) x && (lt_z x (pos s) && inside ss xs)

-- The first entries of the offsets, and the vectors of the others.
unfoldable pub first_entry : List ℤ → ℤ
first_entry [] = pos 0
first_entry (x ∷ xs) = x

unfoldable pub other_entries : List ℤ → List ℤ
other_entries [] = []
other_entries (x ∷ xs) = xs

-- The least of some whole numbers.
unfoldable pub least_from : ℤ → List ℤ → ℤ
least_from x [] = x
least_from x (y ∷ ys) = least_from (cond (lt_z y x) y x) ys

unfoldable pub least : List ℤ → ℤ
least [] = pos 0
least (x ∷ xs) = least_from x xs

-- The window's least entry in each dimension.
unfoldable pub lows : List ℕ → List (List ℤ) → List ℤ
lows [] offsets = []
lows (s ∷ ss) offsets = least (map first_entry offsets) ∷ lows ss (map other_entries offsets)

-- In one dimension: how many indices the iterations have there, where the grid has s and the window the entries es. Widths
-- below 0 are 0.
unfoldable pub extent : ℕ → List ℤ → ℕ
extent s es = let low = least es in s - greatest (map (λ e. above e low) es)

unfoldable pub extents : List ℕ → List (List ℤ) → List ℕ
extents [] offsets = []
extents (s ∷ ss) offsets = extent s (map first_entry offsets) ∷ extents ss (map other_entries offsets)

-- Number j in a box of these widths, last index fastest: its indices, each from 0.
unfoldable pub indices : List ℕ → ℕ → List ℕ
indices [] j = []
indices (e ∷ es) j = (j / product es) ∷ indices es (j % product es)

-- Indices counted from a vector.
abbrev pub counted_from : List ℤ → List ℕ → List ℤ
counted_from xs us = plus (map pos us) xs
