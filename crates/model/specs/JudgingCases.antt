-- Chains and requests handed over as values, judged (document 01, "Turned back on account of the input", 3 to 9; document 02,
-- requests 2, 4 and 5, 14 to 16): one table, computed.
use Rattle.std.specs.Prelude.{ℕ, Bool, true, false, ◌≡◌, refl, ℤ, pos, negsuc, length, Float}
use mathlib.Core.List.{List, [], ◌∷◌, map, flat_map}
use Rattle.std.specs.Float.{binary32}
use Rattle.std.specs.Float.Ieee.{of_bits}
use Rattle.model.specs.Lists.{tabulate, sum, product, greatest, all, any, some_below}
use Rattle.model.specs.Vectors.{same, above, plus, equal, before, is_zero}
use Rattle.model.specs.Geometry.{place, natural, first_entry, other_entries, least_from, least, lows, extent, extents, indices}
use Rattle.model.specs.Geometry as rectangular
use Rattle.model.specs.Grounds.{cell_count, inside, cell_place, position, cell_at, is_iteration}
use Rattle.model.specs.Grounds.{cells_above, row_cells, has_column, inside_rows, row_place, row_at, column_at}
use Rattle.model.specs.Courses.{count, vector, smallest, rows_down, columns_on, common_start, common_end, common_row}
use Rattle.model.specs.Courses.{all_iterations}
use Rattle.model.specs.Boxes.{index_count, widths, equal_rows, box_shape, box_course, course, crossed, reads_outside, bad_box}
use Rattle.model.specs.Values.{sizes_of, offset_of, offsets_of, part_of, capacities_of, order_of, trimmed, no_bounds, no_order}
use Rattle.model.specs.Values.{request_of, ground_of, dims_of, rows_of}
use Rattle.model.specs.Iterations.{position_of, course_of, iteration_of, reads_of, firsts_from, firsts, distance_in, distance_of}
use Rattle.model.specs.Answers.{number_of, verdict_number, first_of}
use Rattle.model.specs.Judging.{bad_dims, bad_sizes, bad_grid, bad_count, repeats, no_iteration, needs_centre, lacks_centre}
use Rattle.model.specs.Judging.{not_finite, bad_factor, too_large, twice, bad_order, window_checks, kernel_checks}
use Rattle.model.specs.Judging.{chain_checks, value_checks, judged, judge_chain, bad_row, bad_row_count, bad_rows}
use Rattle.model.specs.Steps.{insert, falling, which_of, authors_order, sorted, distances}
use Rattle.model.specs.Planning.{trimmed_request, judge_request}
use Rattle.model.specs.declared.Bounds.{Bounds}
use Rattle.model.specs.declared.Chain.{Chain}
use Rattle.model.specs.declared.Grid.{Grid}
use Rattle.model.specs.declared.Kernel.{Kernel}
use Rattle.model.specs.declared.Kernel.TheVariants as kernel
use Rattle.model.specs.declared.Order.{Order}

-- A factor by its bits.
abbrev float : ℕ → Float
float w = of_bits binary32 w

-- The number that turns a chain back, and the one that turns back the request which the chain without its capacities is; 0
-- for none.
pub record Numbers : Type 0 where
  pub chain : ℕ
  pub request : ℕ

-- `rows`: the rows that are lent beside it.
pub record Case : Type 0 where
  pub value : Chain
  pub rows : List ℕ
  pub numbers : Numbers

unfoldable pub answered : Case → Numbers
answered c = record {
  chain = verdict_number (judge_chain c.value c.rows);
  request = verdict_number (judge_request (request_of c.value) c.rows);
}

unfoldable pub expected : Case → Numbers
expected c = c.numbers

-- A value with bounds and an order.
abbrev valued : Grid → (count : ℕ) (offsets : List ℤ) → Bounds → (capacities : List ℕ) → Order → Kernel → (chain request : ℕ)
    → Case
valued g count offsets b capacities o k chain request = record {
  value = record {
    grid = g;
    window = record {
      count = count;
      offsets = flat_map (λ (x : ℤ). let offset : List ℤ = x ∷ pos 0 ∷ pos 0 ∷ pos 0 ∷ [] in offset) offsets;
    };
    bounds = b;
    capacities = capacities;
    order = o;
    kernel = k;
  };
  rows = [];
  numbers = record { chain = chain; request = request };
}

-- With an order, whose line stood or did not; with bounds, likewise; and without both.
abbrev ordered : (stood : Bool) → Grid → (count : ℕ) (offsets : List ℤ) (capacities filters : List ℕ) → Kernel
    → (chain request : ℕ) → Case
ordered stood g count offsets capacities filters k chain request = valued g count offsets no_bounds capacities
    (record { stood = stood; filters = filters }) k chain request

abbrev bounded : (stood : Bool) (lowest highest : List ℤ) → Grid → (count : ℕ) (offsets : List ℤ) (capacities : List ℕ)
    → Kernel → (chain request : ℕ) → Case
bounded stood lowest highest g count offsets capacities k chain request =
    valued g count offsets (record { stood = stood; lowest = lowest; highest = highest }) capacities no_order k chain request

abbrev case : Grid → (count : ℕ) (offsets : List ℤ) (capacities : List ℕ) → Kernel → (chain request : ℕ) → Case
case g count offsets capacities k chain request = ordered false g count offsets capacities [] k chain request

-- A grid in one dimension, with sizes 0 past it, and others.
abbrev line : ℕ → Grid
line size = record { skewed = false; rows = 0; dims = 1; sizes = size ∷ 0 ∷ 0 ∷ 0 ∷ [] }

abbrev grid : ℕ → List ℕ → Grid
grid dims sizes = record { skewed = false; rows = 0; dims = dims; sizes = sizes }

-- By all entries of its offsets, of which each has four.
abbrev entries : Grid → List (List ℤ) → (capacities : List ℕ) → Kernel → (chain request : ℕ) → Case
entries g offsets capacities k chain request = record {
  value = record {
    grid = g;
    window = record { count = length offsets; offsets = flat_map (λ (o : List ℤ). o) offsets };
    bounds = no_bounds;
    capacities = capacities;
    order = no_order;
    kernel = k;
  };
  rows = [];
  numbers = record { chain = chain; request = request };
}

abbrev at : ℤ → ℤ → ℤ → ℤ → List ℤ
at a b c d = a ∷ b ∷ c ∷ d ∷ []

-- On rows, a start and a length each, with offsets that lie in one column; in a box.
abbrev in_column : (count : ℕ) (rows : List ℕ) → Bounds → (offsets : List ℤ) → (chain request : ℕ) → Case
in_column count rows b offsets chain request = record {
  value = record {
    grid = record { skewed = true; rows = count; dims = 2; sizes = [] };
    window = record {
      count = length offsets;
      offsets = flat_map (λ (x : ℤ). let offset : List ℤ = x ∷ pos 0 ∷ pos 0 ∷ pos 0 ∷ [] in offset) offsets;
    };
    bounds = b;
    capacities = [];
    order = no_order;
    kernel = kernel.Raw;
  };
  rows = rows;
  numbers = record { chain = chain; request = request };
}

-- Rows a to c, columns b to d.
abbrev rows_and_columns : (a b c d : ℕ) → Bounds
rows_and_columns a b c d = record { stood = true; lowest = pos a ∷ pos b ∷ []; highest = pos c ∷ pos d ∷ [] }

-- 11 rows of 1,024 cells that start at 1,023 and at 0 by turns: they have column 1,023 in common. A cell of it and the one
-- above are 1 apart or 2,047, by turns. And 10 cells one above the other.
abbrev zigzag : List ℕ
zigzag =
    1023 ∷ 1024 ∷ 0 ∷ 1024 ∷ 1023 ∷ 1024 ∷ 0 ∷ 1024 ∷ 1023 ∷ 1024 ∷ 0 ∷ 1024 ∷ 1023 ∷ 1024 ∷ 0 ∷ 1024 ∷ 1023 ∷ 1024 ∷ 0 ∷ 1024
    ∷ 1023 ∷ 1024 ∷ []

abbrev ten : List ℤ
ten =
    pos 0 ∷ negsuc 0 ∷ negsuc 1 ∷ negsuc 2 ∷ negsuc 3 ∷ negsuc 4 ∷ negsuc 5 ∷ negsuc 6 ∷ negsuc 7 ∷ negsuc 8 ∷ []

abbrev scaled_by : ℕ → Kernel
scaled_by f = kernel.Scaled (float f)

abbrev blend_by : (a b : ℕ) → Kernel
blend_by a b = kernel.Blend (record { a = float a; b = float b })

unfoldable pub cases : List Case
cases =
    -- "entries past its counts play no part": a size 0, an offset that stands twice, and a capacity
    case (line 5) 2 (pos 3 ∷ pos 0 ∷ pos 0 ∷ []) (3 ∷ 99999 ∷ []) kernel.Raw 0 0
    -- 3: "dimension count outside 1 to 4", before 4: the last has n = 99
    ∷ case (grid 0 (5 ∷ 5 ∷ 5 ∷ 5 ∷ [])) 1 (pos 0 ∷ []) [] kernel.Raw 3 3
    ∷ case (grid 5 (1 ∷ 1 ∷ 1 ∷ 1 ∷ [])) 1 (pos 0 ∷ []) [] kernel.Raw 3 3
    ∷ case (grid 9 (1 ∷ 1 ∷ 1 ∷ 1 ∷ [])) 99 [] [] kernel.Raw 3 3
    -- "a size 0", before 4: n = 0
    ∷ case (line 0) 0 [] [] kernel.Raw 3 3
    -- in any dimension
    ∷ case (grid 3 (3 ∷ 4 ∷ 0 ∷ 1 ∷ [])) 1 (pos 0 ∷ []) [] kernel.Raw 3 3
    ∷ case (grid 4 (3 ∷ 4 ∷ 3 ∷ 0 ∷ [])) 1 (pos 0 ∷ []) [] kernel.Raw 3 3
    -- "too many cells", as whole numbers: 65,536 four times
    ∷ case (grid 4 (65536 ∷ 65536 ∷ 65536 ∷ 65536 ∷ [])) 1 (pos 0 ∷ []) [] kernel.Raw 3 3
    -- 4: "n outside 1 to 32", before 5: the offsets past those given are all 0. With n = 32 it is 5.
    ∷ case (line 5) 0 [] [] kernel.Raw 4 4
    ∷ case (line 5) 33 (pos 0 ∷ []) [] kernel.Raw 4 4
    ∷ case (line 5) 255 (pos 0 ∷ []) [] kernel.Raw 4 4
    ∷ case (line 5) 32 (pos 0 ∷ []) [] kernel.Raw 5 5
    -- 5 before 6: on size 2, offsets 0, 2 and 0
    ∷ case (line 2) 3 (pos 0 ∷ pos 2 ∷ pos 0 ∷ []) (2 ∷ 2 ∷ []) kernel.Raw 5 5
    -- by all entries, and those of the grid's dimensions alone: the fourth differs
    ∷ entries (grid 4 (2 ∷ 2 ∷ 2 ∷ 2 ∷ [])) (at (pos 0) (pos 0) (pos 0) (pos 1) ∷ at (pos 0) (pos 0) (pos 0) (pos 0) ∷ [])
    (1 ∷ []) kernel.Raw 0 0
    ∷ entries (grid 3 (2 ∷ 2 ∷ 2 ∷ 2 ∷ [])) (at (pos 0) (pos 0) (pos 0) (pos 1) ∷ at (pos 0) (pos 0) (pos 0) (pos 0) ∷ [])
    (1 ∷ []) kernel.Raw 5 5
    -- 6 before 7: on size 2, offsets 1 and −1, and difference
    ∷ case (line 2) 2 (pos 1 ∷ negsuc 0 ∷ []) (2 ∷ []) kernel.Difference 6 6
    -- 7 before 8: no centre, and an infinite factor; scaled and raw need no centre
    ∷ case (line 5) 2 (pos 2 ∷ pos 1 ∷ []) (1 ∷ []) (blend_by 0x7F800000 0x3F800000) 7 7
    ∷ case (line 5) 2 (pos 2 ∷ pos 1 ∷ []) (1 ∷ []) kernel.Difference 7 7
    ∷ case (line 5) 2 (pos 2 ∷ pos 1 ∷ []) (1 ∷ []) (scaled_by 0x3F800000) 0 0
    ∷ case (line 5) 2 (pos 2 ∷ pos 1 ∷ []) (1 ∷ []) kernel.Raw 0 0
    -- "The centre is the zero offset": by all entries, and those of the grid's dimensions alone
    ∷ entries (grid 3 (2 ∷ 2 ∷ 2 ∷ 2 ∷ [])) (at (pos 0) (pos 0) (pos 1) (pos 0) ∷ []) [] kernel.Difference 7 7
    ∷ entries (grid 4 (2 ∷ 2 ∷ 2 ∷ 2 ∷ [])) (at (pos 0) (pos 0) (pos 0) (pos 1) ∷ []) [] kernel.Difference 7 7
    ∷ entries (grid 3 (2 ∷ 2 ∷ 2 ∷ 2 ∷ [])) (at (pos 0) (pos 0) (pos 0) (pos 1) ∷ []) [] kernel.Difference 0 0
    -- 8: "a factor that is infinite or not a number": of either sign; of a blend, only a or only b
    ∷ case (line 5) 1 (pos 0 ∷ []) [] (scaled_by 0x7F800000) 8 8
    ∷ case (line 5) 1 (pos 0 ∷ []) [] (scaled_by 0xFF800000) 8 8
    ∷ case (line 5) 1 (pos 0 ∷ []) [] (scaled_by 0x7FC00000) 8 8
    ∷ case (line 5) 1 (pos 0 ∷ []) [] (blend_by 0xFFFFFFFF 0x3F800000) 8 8
    ∷ case (line 5) 1 (pos 0 ∷ []) [] (blend_by 0x3F800000 0x7F800000) 8 8
    -- but not the greatest number, −0 or a subnormal
    ∷ case (line 5) 1 (pos 0 ∷ []) [] (scaled_by 0x7F7FFFFF) 0 0
    ∷ case (line 5) 1 (pos 0 ∷ []) [] (blend_by 0x80000000 0x00000001) 0 0
    -- 8 before 9: an infinite factor, and a capacity of 16,385, given and planned; 9 alone
    ∷ case (line 20000) 2 (pos 16385 ∷ pos 0 ∷ []) (16385 ∷ []) (scaled_by 0x7F800000) 8 8
    ∷ case (line 20000) 2 (pos 16385 ∷ pos 0 ∷ []) (16385 ∷ []) kernel.Raw 9 9
    -- 9: "capacities, given or planned": a chain's are those given, a request's those planned
    ∷ case (line 20000) 2 (pos 16385 ∷ pos 0 ∷ []) (16384 ∷ []) kernel.Raw 0 9
    ∷ case (line 5) 3 (pos 2 ∷ pos 1 ∷ pos 0 ∷ []) (16384 ∷ 1 ∷ []) kernel.Raw 9 0
    -- on rows those "over the box's" iterations, "where a box is given": nine of 2,047; in one row of them only five
    ∷ in_column 11 zigzag no_bounds ten 0 9
    ∷ in_column 11 zigzag (rows_and_columns 9 1023 9 1023) ten 0 0
    -- summed as whole numbers: 80000000 twice
    ∷ case (line 5) 3 (pos 2 ∷ pos 1 ∷ pos 0 ∷ []) (0x80000000 ∷ 0x80000000 ∷ []) kernel.Raw 9 0
    -- 14: "not each filter number once": n, a byte twice; what stands past n plays no part
    ∷ ordered true (line 5) 3 (pos 2 ∷ pos 1 ∷ pos 0 ∷ []) (1 ∷ 1 ∷ []) (2 ∷ 0 ∷ 1 ∷ []) kernel.Raw 0 0
    ∷ ordered true (line 5) 3 (pos 2 ∷ pos 1 ∷ pos 0 ∷ []) (1 ∷ 1 ∷ []) (2 ∷ 0 ∷ 1 ∷ 1 ∷ 99 ∷ []) kernel.Raw 0 0
    ∷ ordered true (line 5) 3 (pos 2 ∷ pos 1 ∷ pos 0 ∷ []) (1 ∷ 1 ∷ []) (0 ∷ 3 ∷ 1 ∷ []) kernel.Raw 14 0
    ∷ ordered true (line 5) 3 (pos 2 ∷ pos 1 ∷ pos 0 ∷ []) (1 ∷ 1 ∷ []) (0 ∷ 1 ∷ 255 ∷ []) kernel.Raw 14 0
    ∷ ordered true (line 5) 3 (pos 2 ∷ pos 1 ∷ pos 0 ∷ []) (1 ∷ 1 ∷ []) (2 ∷ 0 ∷ 2 ∷ []) kernel.Raw 14 0
    ∷ ordered true (line 5) 1 (pos 0 ∷ []) [] (0 ∷ []) kernel.Raw 0 0
    ∷ ordered true (line 5) 1 (pos 0 ∷ []) [] (1 ∷ []) kernel.Raw 14 0
    -- of an absent line never: "A part of the record whose line is absent plays no part"
    ∷ ordered false (line 5) 3 (pos 2 ∷ pos 1 ∷ pos 0 ∷ []) (1 ∷ 1 ∷ []) (9 ∷ 9 ∷ 9 ∷ []) kernel.Raw 0 0
    -- "after 9", and so after 7 and 8
    ∷ ordered true (line 5) 3 (pos 2 ∷ pos 1 ∷ pos 0 ∷ []) (16384 ∷ 1 ∷ []) (0 ∷ 0 ∷ 0 ∷ []) kernel.Raw 9 0
    ∷ ordered true (line 5) 2 (pos 2 ∷ pos 1 ∷ []) (1 ∷ []) (0 ∷ 0 ∷ []) kernel.Difference 7 7
    ∷ ordered true (line 5) 1 (pos 0 ∷ []) [] (1 ∷ []) (scaled_by 0x7F800000) 8 8
    -- 15: on 5 cells the offsets 3 and 0 have the iterations 0 and 1: both, and one of them
    ∷ bounded true (pos 0 ∷ []) (pos 1 ∷ []) (line 5) 2 (pos 3 ∷ pos 0 ∷ []) (3 ∷ []) kernel.Raw 0 0
    ∷ bounded true (pos 1 ∷ []) (pos 1 ∷ []) (line 5) 2 (pos 3 ∷ pos 0 ∷ []) (3 ∷ []) kernel.Raw 0 0
    -- "a lowest above its highest"; "an iteration of the box that reads outside the grid": behind the last, before the first,
    -- and a box without any iteration
    ∷ bounded true (pos 1 ∷ []) (pos 0 ∷ []) (line 5) 2 (pos 3 ∷ pos 0 ∷ []) (3 ∷ []) kernel.Raw 15 15
    ∷ bounded true (pos 0 ∷ []) (pos 2 ∷ []) (line 5) 2 (pos 3 ∷ pos 0 ∷ []) (3 ∷ []) kernel.Raw 15 15
    ∷ bounded true (negsuc 0 ∷ []) (pos 1 ∷ []) (line 5) 2 (pos 3 ∷ pos 0 ∷ []) (3 ∷ []) kernel.Raw 15 15
    ∷ bounded true (pos 7 ∷ []) (pos 9 ∷ []) (line 5) 2 (pos 3 ∷ pos 0 ∷ []) (3 ∷ []) kernel.Raw 15 15
    -- each in one dimension of two, the second
    ∷ bounded true (pos 0 ∷ pos 0 ∷ []) (pos 1 ∷ pos 3 ∷ []) (grid 2 (5 ∷ 4 ∷ [])) 2 (pos 3 ∷ pos 0 ∷ []) (12 ∷ []) kernel.Raw 0 0
    ∷ bounded true (pos 0 ∷ pos 0 ∷ []) (pos 1 ∷ pos 4 ∷ []) (grid 2 (5 ∷ 4 ∷ [])) 2 (pos 3 ∷ pos 0 ∷ []) (12 ∷ []) kernel.Raw
    15 15
    ∷ bounded true (pos 0 ∷ pos 3 ∷ []) (pos 1 ∷ pos 2 ∷ []) (grid 2 (5 ∷ 4 ∷ [])) 2 (pos 3 ∷ pos 0 ∷ []) (12 ∷ []) kernel.Raw
    15 15
    -- on rows, between two corners that are iterations: where rows 0 to 2 have column 1, and where row 1 does not
    ∷ in_column 3 (0 ∷ 3 ∷ 0 ∷ 3 ∷ 0 ∷ 3 ∷ []) (rows_and_columns 0 1 2 1) (pos 0 ∷ []) 0 0
    ∷ in_column 3 (0 ∷ 3 ∷ 5 ∷ 1 ∷ 0 ∷ 3 ∷ []) (rows_and_columns 0 1 2 1) (pos 0 ∷ []) 15 15
    -- "4 bytes each, signed": the least and the greatest number
    ∷ bounded true (negsuc 2147483647 ∷ []) (negsuc 2147483647 ∷ []) (line 5) 2 (pos 3 ∷ pos 0 ∷ []) (3 ∷ []) kernel.Raw 15 15
    ∷ bounded true (pos 2147483647 ∷ []) (pos 2147483647 ∷ []) (line 5) 2 (pos 3 ∷ pos 0 ∷ []) (3 ∷ []) kernel.Raw 15 15
    ∷ bounded true (pos 2147483647 ∷ []) (negsuc 2147483647 ∷ []) (line 5) 2 (pos 3 ∷ pos 0 ∷ []) (3 ∷ []) kernel.Raw 15 15
    ∷ bounded true (negsuc 2147483647 ∷ []) (pos 2147483647 ∷ []) (line 5) 2 (pos 3 ∷ pos 0 ∷ []) (3 ∷ []) kernel.Raw 15 15
    -- after 6, which is of window and grid alone, and before 7, 8 and 9
    ∷ bounded true (pos 1 ∷ []) (pos 0 ∷ []) (line 2) 2 (pos 1 ∷ negsuc 0 ∷ []) (2 ∷ []) kernel.Raw 6 6
    ∷ bounded true (pos 0 ∷ []) (pos 9 ∷ []) (line 5) 2 (pos 2 ∷ pos 1 ∷ []) (1 ∷ []) kernel.Difference 15 15
    ∷ bounded true (pos 0 ∷ []) (pos 9 ∷ []) (line 5) 1 (pos 0 ∷ []) [] (scaled_by 0x7F800000) 15 15
    ∷ bounded true (pos 0 ∷ []) (pos 20000 ∷ []) (line 20000) 2 (pos 16385 ∷ pos 0 ∷ []) (16385 ∷ []) kernel.Raw 15 15
    -- of an absent line never, and entries past the dimensions play no part
    ∷ bounded false (pos 9 ∷ []) (pos 8 ∷ []) (line 5) 2 (pos 3 ∷ pos 0 ∷ []) (3 ∷ []) kernel.Raw 0 0
    ∷ bounded true (pos 0 ∷ pos 9 ∷ []) (pos 1 ∷ pos 8 ∷ []) (line 5) 2 (pos 3 ∷ pos 0 ∷ []) (3 ∷ []) kernel.Raw 0 0
    ∷ []

pub table : map answered cases ≡ map expected cases
unfolding answered expected cases flat_map of_bits tabulate sum product greatest all any some_below same above plus equal before
    is_zero
    cells_above row_cells has_column inside_rows row_place row_at column_at smallest rows_down columns_on common_start common_end common_row
    equal_rows firsts_from rows_of bad_row bad_row_count bad_rows rectangular.cell_count cell_count place natural position cell_place cell_at
    first_entry other_entries least_from least lows extent extents indices count vector all_iterations rectangular.inside
    inside is_iteration index_count widths box_shape
    box_course course crossed reads_outside bad_box position_of course_of iteration_of reads_of firsts distance_in distance_of
    sizes_of ground_of dims_of offset_of offsets_of part_of capacities_of order_of trimmed number_of verdict_number first_of
    bad_dims bad_sizes bad_grid bad_count repeats no_iteration needs_centre lacks_centre not_finite bad_factor too_large twice bad_order
    window_checks kernel_checks chain_checks value_checks judged judge_chain
    insert falling which_of authors_order sorted distances trimmed_request judge_request
table = refl
