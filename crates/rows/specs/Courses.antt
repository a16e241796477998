-- The iterations of a window on rows, row by row, as numbers. Rows and columns of iterations are counted from the window's lows.
use Rattle.std.specs.Prelude.{ℕ, ◌+◌, ◌-◌, min, false, true, cond, List, [], ltb, ℤ, neg_ℤ, length, get_or}
use Rattle.model.specs.Lists.{tabulate, greatest}
use Rattle.model.specs.Vectors.{above}
use Rattle.model.specs.Geometry.{first_entry, other_entries}
use Rattle.model.specs.Grounds.{Row, row, end}
use Rattle.model.specs.Courses.{smallest, low_row, low_column, rows_down, columns_on}
use Rattle.model.specs.Boxes.{Part, index_count}
use Rattle.model.specs.Boxes.Part.{whole, box}
use Rattle.geometry.specs.Parts.{number_at}
use Rattle.rows.specs.declared.RowCourse.{RowCourse}

-- How far each offset lies above the lows, 0 past the last: rows down, and columns on.
abbrev pub downs : List (List ℤ) → List ℕ
downs offsets = tabulate 32 (λ k. cond (ltb k (length offsets)) (rows_down offsets (get_or offsets k [])) 0)

abbrev pub ons : List (List ℤ) → List ℕ
ons offsets = tabulate 32 (λ k. cond (ltb k (length offsets)) (columns_on offsets (get_or offsets k [])) 0)

-- Row u of all iterations, of n references that lie so far down and on: its first column, and the first behind it. (The
-- model's common_start and common_end.)
unfoldable pub start_in : List Row → (down on : List ℕ) (n u : ℕ) → ℕ
start_in rs down on n u = greatest (tabulate n (λ k. (row rs (number_at down k + u)).start - number_at on k))

unfoldable pub end_in : List Row → (down on : List ℕ) (n u : ℕ) → ℕ
end_in rs down on n u = smallest (tabulate n (λ k. end (row rs (number_at down k + u)) - number_at on k))

-- How many iterations it has. No row that 16 lets pass has more than 1,024.
unfoldable pub length_in : List Row → (down on : List ℕ) (n u : ℕ) → ℕ
length_in rs down on n u = min (end_in rs down on n u - start_in rs down on n u) 1024

-- The course of all iterations, and of a box's.
unfoldable pub whole_course : (count : ℕ) → List (List ℤ) → RowCourse
whole_course count offsets = record {
  top = 0;
  height = count;
  boxed = false;
  left = 0;
  width = 0;
  references = length offsets;
  down = downs offsets;
  on = ons offsets;
}

unfoldable pub box_on : List (List ℤ) → (lowest highest : List ℤ) → RowCourse
box_on offsets l h = record {
  top = above (first_entry l) (neg_ℤ (low_row offsets));
  height = index_count (first_entry l) (first_entry h);
  boxed = true;
  left = above (first_entry (other_entries l)) (neg_ℤ (low_column offsets));
  width = index_count (first_entry (other_entries l)) (first_entry (other_entries h));
  references = length offsets;
  down = downs offsets;
  on = ons offsets;
}

abbrev pub course_for : (count : ℕ) → List (List ℤ) → Part → RowCourse
course_for count offsets whole = whole_course count offsets
course_for count offsets (box l h) = box_on offsets l h

-- Of any numbers: how many references are looked at, the first column of the course's row v, and how many iterations that row
-- has.
abbrev pub looked : RowCourse → ℕ
looked c = min c.references 32

unfoldable pub column_in : List Row → RowCourse → (v : ℕ) → ℕ
column_in rs c v = cond c.boxed c.left (start_in rs c.down c.on (looked c) (c.top + v))

unfoldable pub row_length : List Row → RowCourse → (v : ℕ) → ℕ
row_length rs c v = cond c.boxed (min c.width 1024) (length_in rs c.down c.on (looked c) (c.top + v))
