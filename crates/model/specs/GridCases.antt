-- What each iteration reads, its newest cell and its clock, and the largest distances, on small grids: the expected side
-- worked out by hand.
use Rattle.std.specs.Prelude.{ℕ, ◌-◌, false, List, [], ◌∷◌, map, ◌≡◌, refl, ℤ, pos, length}
use Rattle.model.specs.Lists.{tabulate, sum, product, greatest, all, any, some_below}
use Rattle.model.specs.Vectors.{−1, same, above, plus, equal, before, is_zero}
use Rattle.model.specs.Geometry.{place, natural, first_entry, other_entries, least_from, least, lows, extent, extents, indices}
use Rattle.model.specs.Geometry as rectangular
use Rattle.model.specs.Grounds.{Row, Ground, cells_above, row_cells, cell_count, has_column, inside_rows, inside, row_place}
use Rattle.model.specs.Grounds.{cell_place, position, row_at, column_at, cell_at, is_iteration}
use Rattle.model.specs.Grounds.Ground.{rectangle, skewed}
use Rattle.model.specs.Courses.{count, vector, smallest, rows_down, columns_on, common_start, common_end, common_row}
use Rattle.model.specs.Courses.{all_iterations}
use Rattle.model.specs.Boxes.{Part, index_count, widths, equal_rows, box_shape, box_course, course}
use Rattle.model.specs.Boxes.Part.{whole, box}
use Rattle.model.specs.Values.{Trimmed}
use Rattle.model.specs.Iterations.{position_of, course_of, iterations_of, iteration_of, reads_of, newest_of, clock_of, firsts_from}
use Rattle.model.specs.Iterations.{firsts, distance_in, distance_of}
use Rattle.model.specs.declared.Kernel.TheVariants as kernel

pub record Case : Type 0 where
  pub the_ground : Ground
  pub part : Part
  pub offsets : List (List ℤ)
  pub reads : List (List ℕ)
  pub newest : List ℕ
  pub clocks : List ℕ
  pub distances : List ℕ

pub record Answers : Type 0 where
  pub reads : List (List ℕ)
  pub newest : List ℕ
  pub clocks : List ℕ
  pub distances : List ℕ

unfoldable pub answered : Case → Answers
answered c =
    let n = length c.offsets in
    let t : Trimmed = record {
      dims = 0;
      the_ground = c.the_ground;
      count = n;
      offsets = c.offsets;
      part = c.part;
      capacities = [];
      ordered = false;
      order = [];
      kernel = kernel.Raw;
    } in
    record {
      reads = tabulate (iterations_of t) (λ j. tabulate n (λ k. reads_of t j k));
      newest = tabulate (iterations_of t) (newest_of t);
      clocks = tabulate (iterations_of t) (clock_of t);
      distances = tabulate (n - 1) (distance_of t);
    }

unfoldable pub expected : Case → Answers
expected c = record { reads = c.reads; newest = c.newest; clocks = c.clocks; distances = c.distances }

abbrev case : Ground → Part → List (List ℤ) → List (List ℕ) → (newest clocks distances : List ℕ) → Case
case g p offsets reads newest clocks distances = record
    { the_ground = g; part = p; offsets = offsets; reads = reads; newest = newest; clocks = clocks; distances = distances }

abbrev row : ℕ → ℕ → Row
row start length = record { start = start; length = length }

unfoldable pub cases : List Case
cases =
    -- Two rows of 3, the cell and the one on its right, in both orders
    case (rectangle (2 ∷ 3 ∷ [])) whole ((pos 0 ∷ pos 1 ∷ []) ∷ (pos 0 ∷ pos 0 ∷ []) ∷ [])
    ((1 ∷ 0 ∷ []) ∷ (2 ∷ 1 ∷ []) ∷ (4 ∷ 3 ∷ []) ∷ (5 ∷ 4 ∷ []) ∷ []) (1 ∷ 2 ∷ 4 ∷ 5 ∷ []) (1 ∷ 2 ∷ 4 ∷ 5 ∷ []) (1 ∷ [])
    ∷ case (rectangle (2 ∷ 3 ∷ [])) whole ((pos 0 ∷ pos 0 ∷ []) ∷ (pos 0 ∷ pos 1 ∷ []) ∷ [])
    ((0 ∷ 1 ∷ []) ∷ (1 ∷ 2 ∷ []) ∷ (3 ∷ 4 ∷ []) ∷ (4 ∷ 5 ∷ []) ∷ []) (1 ∷ 2 ∷ 4 ∷ 5 ∷ []) (1 ∷ 2 ∷ 4 ∷ 5 ∷ []) (0 ∷ [])
    -- Document 01's case 8, in rising order: the newest cell is the second reference's
    ∷ case (rectangle (5 ∷ [])) whole ((pos 0 ∷ []) ∷ (pos 3 ∷ []) ∷ [])
    ((0 ∷ 3 ∷ []) ∷ (1 ∷ 4 ∷ []) ∷ []) (3 ∷ 4 ∷ []) (3 ∷ 4 ∷ []) (0 ∷ [])
    -- Five cells, the one on the left, iterations 2 and 3
    ∷ case (rectangle (5 ∷ [])) (box (pos 2 ∷ []) (pos 3 ∷ [])) ((−1 ∷ []) ∷ [])
    ((1 ∷ []) ∷ (2 ∷ []) ∷ []) (1 ∷ 2 ∷ []) (1 ∷ 2 ∷ []) []
    -- Rows, the cell and the one above: the second row needs more
    ∷ case (skewed (row 1 1 ∷ row 1 1 ∷ row 0 2 ∷ [])) whole ((pos 0 ∷ pos 0 ∷ []) ∷ (−1 ∷ pos 0 ∷ []) ∷ [])
    ((1 ∷ 0 ∷ []) ∷ (3 ∷ 1 ∷ []) ∷ []) (1 ∷ 3 ∷ []) (1 ∷ 3 ∷ []) (2 ∷ [])
    -- Rows, the five-point cross: columns 2 to 4 of row 1
    ∷ case (skewed (row 0 5 ∷ row 1 5 ∷ row 2 5 ∷ [])) whole
    ((pos 1 ∷ pos 0 ∷ []) ∷ (pos 0 ∷ pos 1 ∷ []) ∷ (pos 0 ∷ pos 0 ∷ []) ∷ (pos 0 ∷ −1 ∷ []) ∷ (−1 ∷ pos 0 ∷ []) ∷ [])
    ((10 ∷ 7 ∷ 6 ∷ 5 ∷ 2 ∷ []) ∷ (11 ∷ 8 ∷ 7 ∷ 6 ∷ 3 ∷ []) ∷ (12 ∷ 9 ∷ 8 ∷ 7 ∷ 4 ∷ []) ∷ []) (10 ∷ 11 ∷ 12 ∷ [])
    (10 ∷ 11 ∷ 12 ∷ []) (3 ∷ 1 ∷ 1 ∷ 3 ∷ [])
    -- the same columns, now for its left and its right
    ∷ case (skewed (row 0 7 ∷ row 1 5 ∷ row 0 7 ∷ [])) whole
    ((pos 1 ∷ pos 0 ∷ []) ∷ (pos 0 ∷ pos 1 ∷ []) ∷ (pos 0 ∷ pos 0 ∷ []) ∷ (pos 0 ∷ −1 ∷ []) ∷ (−1 ∷ pos 0 ∷ []) ∷ [])
    ((14 ∷ 9 ∷ 8 ∷ 7 ∷ 2 ∷ []) ∷ (15 ∷ 10 ∷ 9 ∷ 8 ∷ 3 ∷ []) ∷ (16 ∷ 11 ∷ 10 ∷ 9 ∷ 4 ∷ []) ∷ []) (14 ∷ 15 ∷ 16 ∷ [])
    (14 ∷ 15 ∷ 16 ∷ []) (5 ∷ 1 ∷ 1 ∷ 5 ∷ [])
    -- The cell and the one above in a box of rows 1 and 2: the larger distance is not in the box's first row
    ∷ case (skewed (row 1 1 ∷ row 1 1 ∷ row 0 2 ∷ [])) (box (pos 1 ∷ pos 1 ∷ []) (pos 2 ∷ pos 1 ∷ []))
    ((pos 0 ∷ pos 0 ∷ []) ∷ (−1 ∷ pos 0 ∷ []) ∷ []) ((1 ∷ 0 ∷ []) ∷ (3 ∷ 1 ∷ []) ∷ []) (1 ∷ 3 ∷ []) (1 ∷ 3 ∷ []) (2 ∷ [])
    -- Rows, the cell and the one above on its left: to the second iteration the second reference has two cells to go, the
    -- first only one
    ∷ case (skewed (row 0 1 ∷ row 0 2 ∷ row 2 1 ∷ [])) whole ((pos 0 ∷ pos 0 ∷ []) ∷ (−1 ∷ −1 ∷ []) ∷ [])
    ((2 ∷ 0 ∷ []) ∷ (3 ∷ 2 ∷ []) ∷ []) (2 ∷ 3 ∷ []) (2 ∷ 4 ∷ []) (2 ∷ [])
    ∷ []

pub table : map answered cases ≡ map expected cases
unfolding answered expected cases tabulate sum product greatest all any some_below same above plus equal before is_zero
    rectangular.cell_count cell_count place natural position cell_place cell_at first_entry other_entries least_from least lows
    extent extents indices count vector all_iterations rectangular.inside inside is_iteration index_count widths box_shape
    box_course course equal_rows
    cells_above row_cells has_column inside_rows row_place row_at column_at smallest rows_down columns_on common_start common_end common_row
    position_of course_of iterations_of iteration_of reads_of newest_of clock_of firsts_from firsts distance_in distance_of
table = refl
