-- Tables of a run on rows: the iterations above a row, the row of an iteration, and what is read there, on any value.
use Rattle.std.specs.Prelude.{ℕ, zero, suc, ◌+◌, ◌-◌, ◌≤◌, ◌<◌, min, max, cond, List, eqb, ltb}
use Rattle.model.specs.Grounds.{Row, row}
use Rattle.model.specs.Answers.{by_verdict}
use Rattle.model.specs.Values.{rows_of}
use Rattle.model.specs.Judging.{most_cells, bad_rows, judge_rows}
use Rattle.model.specs.declared.Bounds.{Bounds}
use Rattle.model.specs.declared.Window.{Window}
use Rattle.geometry.specs.Parts.{number_at}
use Rattle.rows.specs.Courses.{looked, column_in, row_length}
use Rattle.rows.specs.declared.RowCourse.{RowCourse}

-- How many entries the table of the cells above has: one for each row and one for all, none where 16 turns the rows back.
unfoldable pub above_count : (count : ℕ) → List ℕ → ℕ
above_count count rows = cond (bad_rows (rows_of count rows)) 0 (count + 1)

-- How much lies above row v, where row i has f i.
unfoldable pub lengths_above : (ℕ → ℕ) → ℕ → ℕ
lengths_above f zero = 0
lengths_above f (suc v) = lengths_above f v + f v

-- Entry i of a table of 513; 0 past its last.
unfoldable pub entry_of : List ℕ → ℕ → ℕ
entry_of above i = cond (ltb i 513) (number_at above i) 0

-- The position that reference k reads in the first iteration of the course's row v, where this table says how many cells lie
-- above each row.
unfoldable pub read_at : List Row → (above : List ℕ) → RowCourse → (v k : ℕ) → ℕ
read_at rs above c v k =
    let i = number_at c.down k + (c.top + v) in
    entry_of above i + ((number_at c.on k + min (column_in rs c v) 8192) - (row rs i).start)

-- Row v is the one that iteration j lies in, where the table says how many lie above each row.
pub record LiesIn (above : List ℕ) (height j v : ℕ) : Type 0 where
  pub below : v < height
  pub from : number_at above v ≤ j
  pub to : j < number_at above (v + 1)

-- What is answered on any table, of which 512 rows are looked at: row 0 or one that begins at or before iteration j, and it
-- is the last one or j lies before the next. Where the table rises there is one such row; elsewhere any of them may be it.
pub record RowOf (above : List ℕ) (height j v : ℕ) : Type 0 where
  pub below : v < max (min height 512) 1
  pub from : 0 < v → number_at above v ≤ j
  pub to : v + 1 < min height 512 → j < number_at above (v + 1)

-- The reuse distance of references k and k + 1 in the first iteration of row v; 0 where that has none.
unfoldable pub distance_at : List Row → (above : List ℕ) → RowCourse → (k v : ℕ) → ℕ
distance_at rs above c k v = cond (eqb (row_length rs c v) 0) 0 (read_at rs above c v k - read_at rs above c v (k + 1))

-- What is read in row v, where it has iterations, is a cell's position.
abbrev pub Near : List Row → (above : List ℕ) → RowCourse → (v : ℕ) → Type 0
Near rs above c v = 0 < row_length rs c v → (k : ℕ) → k < looked c → read_at rs above c v k ≤ most_cells

abbrev pub AllNear : List Row → (above : List ℕ) → RowCourse → Type 0
AllNear rs above c = (v : ℕ) → v < c.height → Near rs above c v

-- How many distances there are: none where the survey refuses.
abbrev pub distance_count : (count : ℕ) → List ℕ → Window → Bounds → ℕ
distance_count count rows w b = by_verdict (judge_rows count rows w b) (w.count - 1) (λ _. 0)
