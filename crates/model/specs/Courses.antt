-- The course of a run: how many iterations it has, and which vector is number j. They are the cells of a ground of their own,
-- the course's shape, counted from its first vector.
use Rattle.std.specs.Prelude.{ℕ, ◌+◌, ◌-◌, min, List, [], ◌∷◌, map, length, ℤ, neg_ℤ}
use Rattle.model.specs.Lists.{tabulate, greatest}
use Rattle.model.specs.Vectors.{above}
use Rattle.model.specs.Geometry.{first_entry, other_entries, least, lows, extents, counted_from}
use Rattle.model.specs.Grounds.{Row, Ground, row, end, cell_count, cell_at}
use Rattle.model.specs.Grounds.Ground.{rectangle, skewed}

pub record Course : Type 0 where
  pub first : List ℤ
  pub shape : Ground

unfoldable pub count : Course → ℕ
count c = cell_count c.shape

-- "Iterations go in lexicographic order."
unfoldable pub vector : Course → ℕ → List ℤ
vector c j = counted_from c.first (cell_at c.shape j)

-- The least of some numbers, 0 for none.
unfoldable pub smallest : List ℕ → ℕ
smallest [] = 0
smallest (x ∷ []) = x
smallest (x ∷ y ∷ ys) = min x (smallest (y ∷ ys))

-- The window's lows in the two dimensions of rows, and how far an offset lies above them.
abbrev pub low_row : List (List ℤ) → ℤ
low_row offsets = least (map first_entry offsets)

abbrev pub low_column : List (List ℤ) → ℤ
low_column offsets = least (map first_entry (map other_entries offsets))

unfoldable pub rows_down : List (List ℤ) → List ℤ → ℕ
rows_down offsets o = above (first_entry o) (low_row offsets)

unfoldable pub columns_on : List (List ℤ) → List ℤ → ℕ
columns_on offsets o = above (first_entry (other_entries o)) (low_column offsets)

-- The row that the offset o reads in row u of the iterations, counted from the lows.
abbrev pub row_read : List Row → List (List ℤ) → ℕ → List ℤ → Row
row_read rs offsets u o = row rs (rows_down offsets o + u)

-- Row u of the iterations, counted from the lows: the columns that keep each offset inside the row that it reads.
unfoldable pub common_start : List Row → List (List ℤ) → ℕ → ℕ
common_start rs offsets u = greatest (map (λ o. (row_read rs offsets u o).start - columns_on offsets o) offsets)

unfoldable pub common_end : List Row → List (List ℤ) → ℕ → ℕ
common_end rs offsets u = smallest (map (λ o. end (row_read rs offsets u o) - columns_on offsets o) offsets)

unfoldable pub common_row : List Row → List (List ℤ) → ℕ → Row
common_row rs offsets u =
    record { start = common_start rs offsets u; length = common_end rs offsets u - common_start rs offsets u }

-- All iterations: counted from the negated lows.
unfoldable pub all_iterations : Ground → List (List ℤ) → Course
all_iterations (rectangle sizes) offsets = record {
  first = map neg_ℤ (lows sizes offsets);
  shape = rectangle (extents sizes offsets);
}
all_iterations (skewed rs) offsets = record {
  first = neg_ℤ (low_row offsets) ∷ neg_ℤ (low_column offsets) ∷ [];
  shape = skewed (tabulate (length rs) (common_row rs offsets));
}
