-- Grounds: what the cells of a grid are (document 01, "Grid, window, distances"; document 02, request 5). A rectangle is
-- given by its sizes, slowest dimension first; rows are numbered from 0, and each has a start and a length.
use Rattle.std.specs.Prelude.{ℕ, zero, suc, ◌+◌, ◌-◌, Bool, false, cond, ◌&&◌, List, [], ◌∷◌, map, ltb, eqb, length, get_or, ℤ, pos}
use Rattle.std.specs.Int.Signed.{lt_z, le_z}
use Rattle.model.specs.Lists.{all}
use Rattle.model.specs.Vectors.{plus}
use Rattle.model.specs.Geometry.{place, indices, natural}
use Rattle.model.specs.Geometry as rectangular

pub record Row : Type 0 where
  pub start : ℕ
  pub length : ℕ

pub data Ground : Type 0 where
  rectangle : List ℕ → Ground
  skewed : List Row → Ground

-- The sizes of a rectangle; rows have none.
abbrev pub ground_sizes : Ground → List ℕ
ground_sizes (rectangle sizes) = sizes
ground_sizes (skewed rs) = []

-- How many entries an index vector has. "The grid has two dimensions."
abbrev pub dims : Ground → ℕ
dims (rectangle sizes) = length sizes
dims (skewed rs) = 2

-- Row i; past the last one a row without cells.
abbrev pub no_row : Row
no_row = record { start = 0; length = 0 }

abbrev pub row : List Row → ℕ → Row
row rs i = get_or rs i no_row

-- The first column behind a row.
abbrev pub end : Row → ℕ
end r = r.start + r.length

-- How many cells the rows above row i have, and how many all rows have.
unfoldable pub cells_above : List Row → ℕ → ℕ
cells_above rs zero = 0
cells_above [] (suc i) = 0
cells_above (r ∷ rs) (suc i) = r.length + cells_above rs i

unfoldable pub row_cells : List Row → ℕ
row_cells [] = 0
row_cells (r ∷ rs) = r.length + row_cells rs

-- How many cells there are: "only those cells are streamed".
unfoldable pub cell_count : Ground → ℕ
cell_count (rectangle sizes) = rectangular.cell_count sizes
cell_count (skewed rs) = row_cells rs

-- Row x of the rows has column y.
unfoldable pub has_column : List Row → (x y : ℤ) → Bool
has_column rs x y =
    let r = row rs (natural x) in
    le_z (pos 0) x && (le_z (pos r.start) y && lt_z y (pos (end r)))

unfoldable pub inside_rows : List Row → List ℤ → Bool
inside_rows rs [] = false
inside_rows rs (x ∷ []) = false
inside_rows rs (x ∷ y ∷ []) = has_column rs x y
inside_rows rs (x ∷ y ∷ z ∷ zs) = false

-- The vector is the index of a cell.
unfoldable pub inside : Ground → List ℤ → Bool
inside (rectangle sizes) v = rectangular.inside sizes v
inside (skewed rs) v = inside_rows rs v

-- The lengths of the rows above, and how far the column lies behind the row's start.
unfoldable pub row_place : List Row → List ℕ → ℕ
row_place rs [] = 0
row_place rs (i ∷ []) = 0
row_place rs (i ∷ c ∷ u) = cells_above rs i + (c - (row rs i).start)

-- The place of a cell that is given by its indices,
unfoldable pub cell_place : Ground → List ℕ → ℕ
cell_place (rectangle sizes) u = place sizes u
cell_place (skewed rs) u = row_place rs u

-- and the position of one that is given by its index vector.
unfoldable pub position : Ground → List ℤ → ℕ
position g v = cell_place g (map natural v)

-- The row and the column of the cell at position j.
unfoldable pub row_at : List Row → ℕ → ℕ
row_at [] j = 0
row_at (r ∷ rs) j =
    let further = suc (row_at rs (j - r.length)) in
    cond (ltb j r.length) 0 further

unfoldable pub column_at : List Row → ℕ → ℕ
column_at [] j = 0
column_at (r ∷ rs) j =
    let further = column_at rs (j - r.length) in
    cond (ltb j r.length) (r.start + j) further

-- The indices of the cell at position j.
unfoldable pub cell_at : Ground → ℕ → List ℕ
cell_at (rectangle sizes) j = indices sizes j
cell_at (skewed rs) j = row_at rs j ∷ column_at rs j ∷ []

-- "An iteration is every whole-number vector, negative entries allowed, that added to each offset stays inside the grid."
unfoldable pub is_iteration : Ground → List (List ℤ) → List ℤ → Bool
is_iteration g offsets v = eqb (length v) (dims g) && all (λ o. inside g (plus v o)) offsets
