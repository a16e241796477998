-- Two kernels on one chain, judged and planned (document 02, request 6): tables, computed; the expected sides are worked out by
-- hand.
use Rattle.std.specs.Prelude.{ℕ, ◌+◌, true, false, ◌≡◌, refl, ℤ, pos, negsuc, length, replicate, Float}
use Rattle.std.specs.Result.{result_unwrap_or}
use mathlib.Core.List.{List, [], ◌∷◌, map, flat_map}
use Rattle.std.specs.Float.{binary32}
use Rattle.std.specs.Float.Ieee.{of_bits}
use Rattle.model.specs.Lists.{tabulate, up_to, sum, product, greatest, all, any, some_below}
use Rattle.model.specs.Vectors.{−1, same, above, plus, equal, before, is_zero}
use Rattle.model.specs.Geometry.{place, natural, first_entry, other_entries}
use Rattle.model.specs.Geometry.{least_from, least, lows, extent, extents, indices}
use Rattle.model.specs.Geometry as rectangular
use Rattle.model.specs.Grounds.{cell_count, inside, cell_place, position, cell_at, is_iteration}
use Rattle.model.specs.Grounds.{cells_above, row_cells, has_column, inside_rows, row_place, row_at, column_at}
use Rattle.model.specs.Courses.{count, vector, smallest, rows_down, columns_on, common_start, common_end, common_row}
use Rattle.model.specs.Courses.{all_iterations}
use Rattle.model.specs.Boxes.{index_count, widths, equal_rows, box_shape, box_course, course, crossed, reads_outside, bad_box}
use Rattle.model.specs.Values.{sizes_of, offset_of, offsets_of, part_of, bounds_of, capacities_of, order_of, trimmed, no_bounds}
use Rattle.model.specs.Values.{ground_of, dims_of, rows_of, grid_of, chain_of, blank_chain}
use Rattle.model.specs.Iterations.{position_of, course_of, iteration_of, reads_of, firsts_from, firsts, distance_in, distance_of}
use Rattle.model.specs.Answers.{number_of, verdict_of, verdict_number, first_of}
use Rattle.model.specs.Judging.{bad_dims, bad_sizes, bad_grid, bad_count, repeats, no_iteration, needs_centre, lacks_centre}
use Rattle.model.specs.Judging.{not_finite, bad_factor, too_large, twice, bad_order, bad_row, bad_row_count, bad_rows}
use Rattle.model.specs.Steps.{insert, falling, which_of, authors_order, sorted, distances}
use Rattle.model.specs.Planning.{trimmed_request}
use Rattle.model.specs.Pairs.{own_of, member, distinct, union, not_union, pair_checks, union_request, planned_union, plan_pair_of}
use Rattle.model.specs.declared.Bounds.{Bounds}
use Rattle.model.specs.declared.Chain.{Chain}
use Rattle.model.specs.declared.Grid.{Grid}
use Rattle.model.specs.declared.Kernel.{Kernel}
use Rattle.model.specs.declared.Kernel.TheVariants as kernel
use Rattle.model.specs.declared.Side.{Side}
use Rattle.model.specs.declared.Window.{Window}

-- A factor by its bits.
abbrev float : ℕ → Float
float w = of_bits binary32 w

-- Offsets of one entry; what stands past it plays no part.
abbrev window : List ℤ → Window
window xs = record {
  count = length xs;
  offsets = flat_map (λ (x : ℤ). let offset : List ℤ = x ∷ pos 9 ∷ pos 8 ∷ pos 7 ∷ [] in offset) xs;
}

abbrev side : Kernel → List ℤ → Side
side k xs = record { window = window xs; kernel = k }

abbrev raw : List ℤ → Side
raw = side kernel.Raw

abbrev infinite : Kernel
infinite = kernel.Scaled (float 0x7F800000)

abbrev line : ℕ → Grid
line size = record { skewed = false; rows = 0; dims = 1; sizes = size ∷ 0 ∷ 0 ∷ 0 ∷ [] }

abbrev bounded : (lowest highest : ℤ) → Bounds
bounded lowest highest = record { stood = true; lowest = lowest ∷ []; highest = highest ∷ [] }

-- 0, 1, 2, ..
abbrev first_of_lem : ℕ → List ℤ
first_of_lem n = tabulate n pos

-- Those from m on.
abbrev from : (m n : ℕ) → List ℤ
from m n = tabulate n (λ k. pos (m + k))

-- A chain with two windows, and the number that turns them back, 0 for none.
pub record Case : Type 0 where
  pub grid : Grid
  pub bounds : Bounds
  pub offsets : List ℤ
  pub capacities : List ℕ
  pub first : Side
  pub second : Side
  pub number : ℕ

-- Its own kernel, with an infinite factor, and its own order, with a filter 99, play no part.
abbrev chain_in : Case → Chain
chain_in c = record {
  grid = c.grid;
  window = window c.offsets;
  bounds = c.bounds;
  capacities = c.capacities;
  order = record { stood = true; filters = 99 ∷ 99 ∷ [] };
  kernel = infinite;
}

unfoldable pub answered : Case → ℕ
answered c =
    let a = own_of (dims_of c.grid) c.first in
    let b = own_of (dims_of c.grid) c.second in
    verdict_number (first_of (pair_checks (trimmed (chain_in c) []) a b))

unfoldable pub expected : Case → ℕ
expected c = c.number

abbrev in_box : Bounds → Grid → (offsets : List ℤ) (capacities : List ℕ) → Side → Side → (number : ℕ) → Case
in_box bounds g offsets capacities x y number = record {
  grid = g;
  bounds = bounds;
  offsets = offsets;
  capacities = capacities;
  first = x;
  second = y;
  number = number;
}

abbrev case : Grid → (offsets : List ℤ) (capacities : List ℕ) → Side → Side → (number : ℕ) → Case
case = in_box no_bounds

-- Right and left of the cell, and the cell itself.
abbrev three : List ℤ
three = pos 1 ∷ pos 0 ∷ −1 ∷ []

unfoldable pub cases : List Case
cases =
    -- Accepted: windows that share the cell; the same window twice; a chain in another order, and with other capacities
    case (line 5) three (1 ∷ 1 ∷ []) (side kernel.Difference (pos 0 ∷ pos 1 ∷ [])) (raw (−1 ∷ pos 0 ∷ [])) 0
    ∷ case (line 5) three (1 ∷ 1 ∷ []) (raw three) (raw three) 0
    ∷ case (line 5) (−1 ∷ pos 1 ∷ pos 0 ∷ []) (7 ∷ 0 ∷ []) (raw (pos 0 ∷ [])) (raw (pos 1 ∷ −1 ∷ [])) 0
    -- 20 and 20 references, of which they share 8: 32
    ∷ case (line 40) (first_of_lem 32) (replicate 31 1) (raw (first_of_lem 20)) (raw (from 12 20)) 0
    -- 3 before 4; on rows 16 in its place
    ∷ case (line 0) [] [] (raw []) (raw []) 3
    ∷ case (record { skewed = true; rows = 0; dims = 1; sizes = 5 ∷ [] }) [] [] (raw []) (raw []) 16
    -- 4 of the chain, of either window, and of the union, whose 33 references no chain has
    ∷ case (line 5) [] [] (raw (pos 0 ∷ [])) (raw (pos 0 ∷ [])) 4
    ∷ case (line 5) (pos 0 ∷ []) [] (raw []) (raw (pos 0 ∷ [])) 4
    ∷ case (line 5) (pos 0 ∷ []) [] (raw (pos 0 ∷ [])) (raw []) 4
    ∷ case (line 40) (first_of_lem 32) (replicate 31 1) (raw (first_of_lem 20)) (raw (from 13 20)) 4
    ∷ case (line 40) (first_of_lem 32) (replicate 31 1) (raw (first_of_lem 33)) (raw (first_of_lem 1)) 4
    ∷ case (line 40) (first_of_lem 32) (replicate 31 1) (raw (first_of_lem 1)) (raw (first_of_lem 33)) 4
    -- 4 before 5; in the union equal offsets count once, so that twins are 5
    ∷ case (line 5) (pos 0 ∷ pos 0 ∷ []) (1 ∷ []) (raw (pos 0 ∷ pos 0 ∷ [])) (raw []) 4
    ∷ case (line 5) (pos 0 ∷ pos 1 ∷ []) (1 ∷ []) (raw (replicate 32 (pos 0))) (raw (pos 1 ∷ [])) 5
    -- 5 of the chain and of either window, before 6
    ∷ case (line 5) (pos 1 ∷ pos 0 ∷ pos 1 ∷ []) (1 ∷ 1 ∷ []) (raw (pos 0 ∷ [])) (raw (pos 1 ∷ [])) 5
    ∷ case (line 5) (pos 1 ∷ pos 0 ∷ []) (1 ∷ []) (raw (pos 0 ∷ pos 0 ∷ [])) (raw (pos 1 ∷ [])) 5
    ∷ case (line 5) (pos 5 ∷ pos 0 ∷ []) (1 ∷ []) (raw (pos 0 ∷ [])) (raw (pos 5 ∷ pos 5 ∷ [])) 5
    -- 6: each window has iterations, the union has none; before 15
    ∷ in_box (bounded (pos 1) (pos 0)) (line 5) (pos 3 ∷ pos 0 ∷ negsuc 2 ∷ []) (1 ∷ 1 ∷ []) (raw (pos 3 ∷ pos 0 ∷ []))
    (raw (pos 0 ∷ negsuc 2 ∷ [])) 6
    -- 15 before 7: in the box's first iteration the second window reads outside
    ∷ in_box (bounded (pos 0) (pos 3)) (line 5) three (1 ∷ 1 ∷ []) (raw (pos 0 ∷ pos 1 ∷ [])) (side kernel.Difference (−1 ∷ [])) 15
    -- 7 of either window, though the chain has a centre; before 8 of the other
    ∷ case (line 5) three (1 ∷ 1 ∷ []) (side kernel.Difference (pos 1 ∷ −1 ∷ [])) (raw (pos 0 ∷ [])) 7
    ∷ case (line 5) three (1 ∷ 1 ∷ []) (side infinite (pos 0 ∷ [])) (side kernel.Difference (pos 1 ∷ −1 ∷ [])) 7
    ∷ case (line 5) three (1 ∷ 1 ∷ []) (side kernel.Difference (pos 1 ∷ −1 ∷ [])) (side infinite (pos 0 ∷ [])) 7
    -- 8 of either, before 9
    ∷ case (line 5) three (16384 ∷ 1 ∷ []) (side infinite three) (raw (pos 0 ∷ [])) 8
    ∷ case (line 5) three (16384 ∷ 1 ∷ []) (raw three) (side infinite (pos 0 ∷ [])) 8
    -- 9 before 14
    ∷ case (line 5) three (16384 ∷ 1 ∷ []) (raw (pos 0 ∷ [])) (raw (pos 0 ∷ [])) 9
    -- 14: the chain lacks one of the first window, or of the second; it has one more; as many, and others
    ∷ case (line 5) (pos 0 ∷ −1 ∷ []) (1 ∷ []) (raw (pos 1 ∷ pos 0 ∷ [])) (raw (−1 ∷ [])) 14
    ∷ case (line 5) (pos 1 ∷ pos 0 ∷ []) (1 ∷ []) (raw (pos 1 ∷ pos 0 ∷ [])) (raw (−1 ∷ [])) 14
    ∷ case (line 5) three (1 ∷ 1 ∷ []) (raw (pos 1 ∷ [])) (raw (pos 0 ∷ [])) 14
    ∷ case (line 5) (pos 1 ∷ pos 0 ∷ []) (1 ∷ []) (raw (pos 1 ∷ [])) (raw (−1 ∷ [])) 14
    ∷ []

-- ---- plans

-- What a plan says: the number that turns the pair back, 0 for none; offsets, capacities and order, and whether it stood.
pub record Results : Type 0 where
  pub number : ℕ
  pub offsets : List (List ℤ)
  pub capacities : List ℕ
  pub order : List ℕ
  pub bounds : Bounds
  pub kernel : Kernel

pub record Plan : Type 0 where
  pub grid : Grid
  pub bounds : Bounds
  pub first : Side
  pub second : Side
  pub results : Results

unfoldable pub planned : Plan → Results
planned p =
    let r = plan_pair_of p.grid [] p.bounds p.first p.second in
    let c = result_unwrap_or r blank_chain in
    record {
      number = verdict_number (verdict_of r);
      offsets = offsets_of (dims_of c.grid) c.window;
      capacities = capacities_of c;
      order = order_of c.window.count c.order;
      bounds = c.bounds;
      kernel = c.kernel;
    }

unfoldable pub wanted : Plan → Results
wanted p = p.results

abbrev plan_on : Grid → Bounds → Side → Side → (offsets : List (List ℤ)) (capacities order : List ℕ) → Bounds → Plan
plan_on g b x y offsets capacities order bounds = record {
  grid = g;
  bounds = b;
  first = x;
  second = y;
  results = record {
    number = 0;
    offsets = offsets;
    capacities = capacities;
    order = order;
    bounds = bounds;
    kernel = kernel.Raw;
  };
}

abbrev refused_on : Grid → Side → Side → (number : ℕ) → Plan
refused_on g x y number = record {
  grid = g;
  bounds = no_bounds;
  first = x;
  second = y;
  results = record { number = number; offsets = []; capacities = []; order = []; bounds = no_bounds; kernel = kernel.Raw };
}

-- Offsets of two entries, as a window.
abbrev at : ℤ → ℤ → List ℤ
at y x = y ∷ x ∷ pos 0 ∷ pos 0 ∷ []

abbrev in_plane : Kernel → List (List ℤ) → Side
in_plane k os = record { window = record { count = length os; offsets = flat_map (λ (o : List ℤ). o) os }; kernel = k }

abbrev point : ℤ → ℤ → List ℤ
point y x = y ∷ x ∷ []

unfoldable pub plans : List Plan
plans =
    -- 4 by 5: the row of the cell, and the cells above and below it: the cross, case 6 of document 01, but its order is 0 to 4
    -- neither author wrote falling offsets
    plan_on (record { skewed = false; rows = 0; dims = 2; sizes = 4 ∷ 5 ∷ 0 ∷ 0 ∷ [] }) no_bounds
    (in_plane kernel.Difference (at (pos 0) (pos 0) ∷ at (pos 0) (pos 1) ∷ at (pos 0) −1 ∷ []))
    (in_plane kernel.Raw (at −1 (pos 0) ∷ at (pos 1) (pos 0) ∷ []))
    (point (pos 1) (pos 0) ∷ point (pos 0) (pos 1) ∷ point (pos 0) (pos 0) ∷ point (pos 0) −1 ∷ point −1 (pos 0) ∷ [])
    (4 ∷ 1 ∷ 1 ∷ 4 ∷ []) (0 ∷ 1 ∷ 2 ∷ 3 ∷ 4 ∷ []) no_bounds
    -- a shared reference stands once; the box is copied
    ∷ plan_on (line 9) (bounded (pos 2) (pos 3)) (raw (pos 0 ∷ pos 5 ∷ [])) (raw (pos 3 ∷ pos 0 ∷ []))
    ((pos 5 ∷ []) ∷ (pos 3 ∷ []) ∷ (pos 0 ∷ []) ∷ []) (2 ∷ 3 ∷ []) (0 ∷ 1 ∷ 2 ∷ [])
    (record {
      stood = true;
      lowest = pos 2 ∷ pos 0 ∷ pos 0 ∷ pos 0 ∷ [];
      highest = pos 3 ∷ pos 0 ∷ pos 0 ∷ pos 0 ∷ [];
    })
    -- 9 of the union's distances, where neither window has a FIFO; 4 and 6 of the union; 7 and 8 of a window
    ∷ refused_on (line 20000) (raw (pos 0 ∷ [])) (raw (pos 16385 ∷ [])) 9
    ∷ refused_on (line 40) (raw (first_of_lem 20)) (raw (from 13 20)) 4
    ∷ refused_on (line 5) (raw (pos 3 ∷ [])) (raw (negsuc 1 ∷ [])) 6
    ∷ refused_on (line 5) (raw (pos 0 ∷ [])) (side kernel.Difference (pos 1 ∷ [])) 7
    ∷ refused_on (line 5) (side infinite (pos 0 ∷ [])) (raw (pos 1 ∷ [])) 8
    ∷ []

pub table : (map answered cases ≡ map expected cases) × (map planned plans ≡ map wanted plans)
unfolding answered expected cases planned wanted plans of_bits flat_map
    tabulate up_to sum product greatest all any some_below same above plus equal before is_zero
    rectangular.cell_count cell_count place natural position cell_place cell_at first_entry other_entries least_from least lows
    cells_above row_cells has_column inside_rows row_place row_at column_at
    smallest rows_down columns_on common_start common_end common_row equal_rows
    extent extents indices count vector all_iterations rectangular.inside inside is_iteration index_count widths box_shape
    box_course course crossed reads_outside bad_box position_of course_of iteration_of reads_of firsts_from firsts distance_in distance_of
    sizes_of rows_of ground_of dims_of offset_of offsets_of part_of bounds_of capacities_of order_of trimmed number_of verdict_number first_of
    bad_dims bad_sizes bad_grid bad_count repeats no_iteration needs_centre lacks_centre not_finite bad_factor too_large twice bad_order
    bad_row bad_row_count bad_rows insert falling which_of authors_order sorted distances trimmed_request
    grid_of chain_of own_of member distinct union not_union pair_checks union_request planned_union plan_pair_of
table = (refl, refl)
