-- The three steps of planning on grids and windows (document 003, section 3.3): one table, computed, the expected side worked
-- out by hand.
use Rattle.std.specs.Prelude.{ℕ, ◌-◌, false, List, [], ◌∷◌, map, ◌≡◌, refl, ℤ, pos, Float, length, get_or, replicate}
use Rattle.std.specs.Result.{result_unwrap_or}
use Rattle.std.specs.Float.{binary32}
use Rattle.std.specs.Float.Ieee.{of_bits}
use Rattle.model.specs.Lists.{tabulate, sum, product, greatest, all, any, some_below}
use Rattle.model.specs.Vectors.{−1, same, above, plus, equal, before, is_zero}
use Rattle.model.specs.Geometry.{place, natural, first_entry, other_entries, least_from, least, lows, extent, extents, indices}
use Rattle.model.specs.Geometry as rectangular
use Rattle.model.specs.Grounds.{cell_count, inside, cell_place, position, cell_at, is_iteration}
use Rattle.model.specs.Courses.{count, vector, all_iterations}
use Rattle.model.specs.Boxes.{Part, index_count, widths, box_shape, box_course, course, crossed, reads_outside, bad_box}
use Rattle.model.specs.Boxes.Part.{whole, box}
use Rattle.model.specs.Values.{sizes_of, offset_of, offsets_of, part_of, window_of, bounds_of, ground_of, dims_of, blank_window}
use Rattle.model.specs.Iterations.{position_of, course_of, iteration_of, reads_of, firsts, distance_in, distance_of}
use Rattle.model.specs.Answers.{number_of, verdict_of, verdict_number, first_of}
use Rattle.model.specs.Judging.{bad_dims, bad_sizes, bad_grid, bad_count, repeats, no_iteration, needs_centre, lacks_centre}
use Rattle.model.specs.Judging.{not_finite, bad_factor, too_large, twice, bad_order, window_checks, kernel_checks}
use Rattle.model.specs.Judging.{chain_checks, value_checks, judged}
use Rattle.model.specs.Steps.{insert, falling, which_of, authors_order, sorted, distances, total, steps_of}
use Rattle.model.specs.Planning.{trimmed_request, judge_request}
use Rattle.model.specs.declared.Grid.{Grid}
use Rattle.model.specs.declared.Steps.{Steps}
use Rattle.model.specs.declared.Window.{Window}
use Rattle.model.specs.declared.Kernel.{Kernel}
use Rattle.model.specs.declared.Kernel.TheVariants as kernel

-- A factor by its bits.
abbrev float : ℕ → Float
float w = of_bits binary32 w

-- The number that turns the steps back, 0 for none; the sorted offsets, the filter of each of the author's references, the
-- distances and their sum.
pub record Results : Type 0 where
  pub number : ℕ
  pub offsets : List (List ℤ)
  pub filters : List ℕ
  pub distances : List ℕ
  pub total : ℕ

-- A grid's sizes, offsets in the author's order and a kernel, which the steps do not look at; the number that turns the
-- request back; the results.
pub record Case : Type 0 where
  pub sizes : List ℕ
  pub given : List (List ℤ)
  pub part : Part
  pub kernel : Kernel
  pub request : ℕ
  pub results : Results

pub record Answers : Type 0 where
  pub request : ℕ
  pub results : Results

-- What stands beside a number.
abbrev no_steps : Steps
no_steps = record { window = blank_window; filters = replicate 32 0; distances = replicate 31 0; total = 0 }

unfoldable pub answered : Case → Answers
answered c =
    let g : Grid = record { skewed = false; rows = 0; dims = length c.sizes; sizes = c.sizes } in
    let w : Window = window_of (length c.given) c.given in
    let answer = steps_of g [] w (bounds_of c.part) in
    let s = result_unwrap_or answer no_steps in
    record {
      request = verdict_number
          (judge_request (record { grid = g; window = w; bounds = bounds_of c.part; kernel = c.kernel }) []);
      results = record {
        number = verdict_number (verdict_of answer);
        offsets = offsets_of g.dims s.window;
        filters = tabulate s.window.count (λ t. get_or s.filters t 0);
        distances = tabulate (s.window.count - 1) (λ k. get_or s.distances k 0);
        total = s.total;
      };
    }

unfoldable pub expected : Case → Answers
expected c = record { request = c.request; results = c.results }

abbrev case : List ℕ → List (List ℤ) → Kernel → (request : ℕ) → List (List ℤ) → (filters distances : List ℕ) → (total : ℕ) → Case
case sizes given k request offsets filters distances total = record {
  sizes = sizes;
  given = given;
  part = whole;
  kernel = k;
  request = request;
  results = record { number = 0; offsets = offsets; filters = filters; distances = distances; total = total };
}

abbrev refused_in : Part → List ℕ → List (List ℤ) → (number : ℕ) → Case
refused_in part sizes given number = record {
  sizes = sizes;
  given = given;
  part = part;
  kernel = kernel.Raw;
  request = number;
  results = record { number = number; offsets = []; filters = []; distances = []; total = 0 };
}

abbrev refused : List ℕ → List (List ℤ) → (number : ℕ) → Case
refused = refused_in whole

-- An offset in one dimension and in two.
abbrev at : ℤ → List ℤ
at x = x ∷ []

abbrev point : ℤ → ℤ → List ℤ
point y x = y ∷ x ∷ []

unfoldable pub cases : List Case
cases =
    -- Document 003's own example, case 1 of document 01: Listing 1's references, centre, left, right, up, down; Table 2's
    -- sizes; "the total size is 2048"
    case (768 ∷ 1024 ∷ [])
    (point (pos 0) (pos 0) ∷ point (pos 0) −1 ∷ point (pos 0) (pos 1) ∷ point −1 (pos 0) ∷ point (pos 1) (pos 0) ∷ [])
    kernel.Difference 0
    (point (pos 1) (pos 0) ∷ point (pos 0) (pos 1) ∷ point (pos 0) (pos 0) ∷ point (pos 0) −1 ∷ point −1 (pos 0) ∷ [])
    (2 ∷ 3 ∷ 1 ∷ 4 ∷ 0 ∷ []) (1023 ∷ 1 ∷ 1 ∷ 1023 ∷ []) 2048
    -- Three references whose order is not its own inverse, with distances that differ
    ∷ case (9 ∷ []) (at (pos 0) ∷ at (pos 5) ∷ at (pos 3) ∷ []) kernel.Raw 0 (at (pos 5) ∷ at (pos 3) ∷ at (pos 0) ∷ [])
    (2 ∷ 0 ∷ 1 ∷ []) (2 ∷ 3 ∷ []) 5
    -- No neighbours
    ∷ case (1 ∷ []) (at (pos 0) ∷ []) kernel.Raw 0 (at (pos 0) ∷ []) (0 ∷ []) [] 0
    -- Requests that 7, 8 and 9 turn back have the three results too
    ∷ case (9 ∷ []) (at (pos 1) ∷ at (pos 4) ∷ []) kernel.Difference 7 (at (pos 4) ∷ at (pos 1) ∷ []) (1 ∷ 0 ∷ []) (3 ∷ []) 3
    ∷ case (9 ∷ []) (at (pos 1) ∷ at (pos 4) ∷ []) (kernel.Scaled (float 0x7F800000)) 8 (at (pos 4) ∷ at (pos 1) ∷ [])
    (1 ∷ 0 ∷ []) (3 ∷ []) 3
    ∷ case (40000 ∷ []) (at (pos 0) ∷ at (pos 30000) ∷ at (pos 10000) ∷ []) kernel.Raw 9
    (at (pos 30000) ∷ at (pos 10000) ∷ at (pos 0) ∷ []) (2 ∷ 0 ∷ 1 ∷ []) (20000 ∷ 10000 ∷ []) 30000
    ∷ case (20000 ∷ []) (at (pos 0) ∷ at (pos 16385) ∷ []) kernel.Raw 9 (at (pos 16385) ∷ at (pos 0) ∷ []) (1 ∷ 0 ∷ [])
    (16385 ∷ []) 16385
    -- 3 to 6 turn the steps back, lowest first,
    ∷ refused (0 ∷ []) [] 3
    ∷ refused (5 ∷ []) [] 4
    ∷ refused (2 ∷ []) (at (pos 0) ∷ at (pos 2) ∷ at (pos 0) ∷ []) 5
    ∷ refused (2 ∷ []) (at −1 ∷ at (pos 1) ∷ []) 6
    -- and 15 after 6: a box where there is no iteration, and one whose last vector is none
    ∷ refused_in (box (at (pos 1)) (at (pos 0))) (2 ∷ []) (at −1 ∷ at (pos 1) ∷ []) 6
    ∷ refused_in (box (at (pos 1)) (at (pos 2))) (3 ∷ []) (at −1 ∷ at (pos 1) ∷ []) 15
    ∷ []

pub table : map answered cases ≡ map expected cases
unfolding answered expected cases of_bits tabulate sum product greatest all any some_below same above plus equal before is_zero
    rectangular.cell_count cell_count place natural position cell_place cell_at first_entry other_entries least_from least lows
    extent extents indices count vector all_iterations rectangular.inside inside is_iteration index_count widths box_shape
    box_course course crossed reads_outside bad_box position_of course_of iteration_of reads_of firsts distance_in distance_of
    sizes_of ground_of dims_of offset_of offsets_of part_of bounds_of number_of verdict_number first_of
    bad_dims bad_sizes bad_grid bad_count repeats no_iteration needs_centre lacks_centre not_finite bad_factor too_large twice bad_order
    window_checks kernel_checks chain_checks value_checks judged
    insert falling which_of authors_order sorted distances total steps_of trimmed_request judge_request
table = refl
