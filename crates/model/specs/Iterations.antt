-- Cells, iterations and what is read, of a request or a chain as a value (document 01, "Grid, window, distances"; document
-- 02, requests 4 and 5). What is said of a chain goes by these names.
use Rattle.std.specs.Prelude.{ℕ, zero, suc, ◌+◌, ◌-◌, Bool, cond, ◌&&◌, List, [], ◌∷◌, map, eqb, ℤ, length, get_or}
use Rattle.model.specs.Lists.{tabulate, greatest}
use Rattle.model.specs.Vectors.{plus}
use Rattle.model.specs.Grounds.{Row, Ground, ground_sizes, cell_count, position, inside, is_iteration}
use Rattle.model.specs.Grounds.Ground.{rectangle, skewed}
use Rattle.model.specs.Courses.{Course, count, vector}
use Rattle.model.specs.Boxes.{in_part, course}
use Rattle.model.specs.Values.{Trimmed}

-- The numbers of the first iterations of the rows that have any; the first row's begin at `from`.
unfoldable pub firsts_from : ℕ → List Row → List ℕ
firsts_from from [] = []
firsts_from from (r ∷ rs) =
    let behind = firsts_from (from + r.length) rs in
    cond (eqb r.length 0) behind (from ∷ behind)

-- Iterations among which every distance occurs: on a rectangle the first, on rows the first of each row that has any.
unfoldable pub firsts : Ground → List ℕ
firsts (rectangle sizes) = 0 ∷ []
firsts (skewed rs) = firsts_from 0 rs

module _ (t : Trimmed) where
  -- "Its cells are .. streamed in lexicographic order": how many there are.
  unfoldable pub cells_of : ℕ
  cells_of = cell_count t.the_ground

  -- The vector is the index of a cell, and the position of that cell.
  unfoldable pub is_cell_of : List ℤ → Bool
  is_cell_of v = inside t.the_ground v

  unfoldable pub position_of : List ℤ → ℕ
  position_of v = position t.the_ground v

  -- "An iteration is every whole-number vector .. that added to each offset stays inside the grid."
  unfoldable pub is_iteration_of : List ℤ → Bool
  is_iteration_of v = is_iteration t.the_ground t.offsets v

  -- The iterations that a run covers: "Without it the run covers all iterations", else those of the box.
  unfoldable pub covers_of : List ℤ → Bool
  covers_of v = is_iteration_of v && in_part t.part v

  unfoldable pub course_of : Course
  course_of = course t.the_ground t.offsets t.part

  -- How many there are, and on a rectangle how many indices they have in each dimension.
  unfoldable pub iterations_of : ℕ
  iterations_of = count course_of

  unfoldable pub extents_of : List ℕ
  extents_of = ground_sizes course_of.shape

  -- Iteration j of the run.
  unfoldable pub iteration_of : ℕ → List ℤ
  iteration_of j = vector course_of j

  -- The position that reference k reads in iteration j.
  unfoldable pub reads_of : (j k : ℕ) → ℕ
  reads_of j k = position_of (plus (iteration_of j) (get_or t.offsets k []))

  -- "the reuse distance: the position read by reference k less that read by reference k+1 in one iteration",
  unfoldable pub distance_in : (j k : ℕ) → ℕ
  distance_in j k = reads_of j k - reads_of j (suc k)

  -- and "the largest over all iterations, or over the box's where a box is given".
  unfoldable pub distance_of : ℕ → ℕ
  distance_of k = greatest (map (λ j. distance_in j k) (firsts course_of.shape))

  -- "An iteration's newest cell is the one of highest position that its references read."
  unfoldable pub newest_of : ℕ → ℕ
  newest_of j = greatest (tabulate (length t.offsets) (λ k. reads_of j k))

  -- The clock of iteration j, from 0: that of the first is its newest cell's position, and each later one comes as many clocks
  -- behind the one before as the reference that has furthest to go.
  unfoldable pub clock_of : ℕ → ℕ
  clock_of zero = newest_of zero
  clock_of (suc j) = clock_of j + greatest (tabulate (length t.offsets) (λ k. reads_of (suc j) k - reads_of j k))
