-- Document 02, request 5, on rows: what planning finds, and runs from a fresh state, lent all cells; two tables, computed. A
-- cell's word is its position.
use Rattle.std.specs.Prelude.{ℕ, ◌*◌, ◌%◌, false, cond, List, [], ◌∷◌, map, ◌≡◌, refl, eqb, ℤ, pos, neg_ℤ, length, take, replicate}
use Rattle.model.specs.Lists.{tabulate, up_to, sum, greatest, all, any, some_below}
use Rattle.model.specs.Vectors.{−1, same, above, plus, equal, before, is_zero}
use Rattle.model.specs.Geometry.{natural, first_entry, other_entries, least_from, least}
use Rattle.model.specs.Grounds.{Row, cells_above, row_cells, cell_count, has_column, inside_rows, inside, row_place, cell_place}
use Rattle.model.specs.Grounds.{position, row_at, column_at, cell_at, is_iteration}
use Rattle.model.specs.Grounds.Ground.{skewed}
use Rattle.model.specs.Courses.{count, vector, smallest, rows_down, columns_on, common_start, common_end, common_row, all_iterations}
use Rattle.model.specs.Boxes.{Part, index_count, widths, equal_rows, box_shape, box_course, course, crossed, reads_outside, bad_box}
use Rattle.model.specs.Boxes.Part.{whole, box}
use Rattle.model.specs.Values.{Trimmed}
use Rattle.model.specs.Iterations.{cells_of, position_of, course_of, iterations_of, iteration_of, reads_of, firsts_from, firsts}
use Rattle.model.specs.Iterations.{distance_in, distance_of}
use Rattle.model.specs.Answers.{number_of, verdict_number, outcome_case, outcome_counts, answer_counts, answer_number, first_of}
use Rattle.model.specs.Judging.{bad_row, bad_rows, bad_count, repeats, no_iteration, needs_centre, lacks_centre, bad_factor}
use Rattle.model.specs.Judging.{too_large, twice, bad_order, window_checks, kernel_checks, chain_checks, value_checks, judged}
use Rattle.model.specs.Judging.{bad_row_count}
use Rattle.model.specs.Steps.{insert, falling, which_of, authors_order, distances, sorted}
use Rattle.model_run.specs.Kernels.{words_at, terms, written, width}
use Rattle.model.specs.Windows.{centre_of}
use Rattle.model_run.specs.Clock.{turn, limit, turns, ready, fires, next, moves}
use Rattle.model_run.specs.Store.{first_place, place_in, presented, stored}
use Rattle.model_run.specs.Running.{layout, counters_of, with_counters, outcome_of, words, clocked, look, call, events}
use Rattle.model_run.specs.Running.{short_store, not_past, bad_counter, bad_fifo, bad_filters, bad_state, judge_run, begun}
use Rattle.model_run.specs.Running.{filters_of, terms_of, writes_of, written_by, width_of, ended, run_trimmed, events_trimmed}
use Rattle.model_run.specs.Cases.{start, end_of, firing_clocks, cross}
use Rattle.model.specs.declared.Kernel.TheVariants as kernel

-- A raw value on these rows.
abbrev raw : List Row → Part → List (List ℤ) → List ℕ → Trimmed
raw rs part offsets capacities = record {
  dims = 2;
  the_ground = skewed rs;
  count = length offsets;
  offsets = offsets;
  part = part;
  capacities = capacities;
  ordered = false;
  order = [];
  kernel = kernel.Raw;
}

-- Planned: the number, 0 for none, and the capacities.
pub record Plan : Type 0 where
  pub on : List Row
  pub part : Part
  pub offsets : List (List ℤ)
  pub number : ℕ
  pub capacities : List ℕ

-- Run: the number, 0 for none, the outcome's place in the list of five, the cells taken, the clocks made, the clocks that
-- fire, and the words written.
pub record Result : Type 0 where
  pub number : ℕ
  pub outcome : ℕ
  pub cells : ℕ
  pub clocks : ℕ
  pub firing : List ℕ
  pub words : List ℕ

pub record Run : Type 0 where
  pub on : List Row
  pub part : Part
  pub offsets : List (List ℤ)
  pub capacities : List ℕ
  pub result : Result

unfoldable pub planned : Plan → ℕ × List ℕ
planned p =
    let largest = distances (sorted (raw p.on p.part p.offsets [])) in
    let number = verdict_number (judged (raw p.on p.part p.offsets largest)) in
    (number, cond (eqb number 0) largest [])

unfoldable pub ran : Run → Result
ran p =
    let t = raw p.on p.part p.offsets p.capacities in
    let cells = row_cells p.on in
    let store : List ℕ = replicate (sum p.capacities) 0 in
    let lent : List ℕ = tabulate cells (λ c. c) in
    let output : List ℕ = replicate (cells * length p.offsets) 0 in
    let allowance = length p.offsets * cells in
    let r = run_trimmed t start store lent output allowance in
    let done = answer_counts r.answer in
    record {
      number = answer_number r.answer;
      outcome = end_of r.answer;
      cells = done.cells;
      clocks = done.clocks;
      firing = firing_clocks 0 (events_trimmed t start store lent output allowance);
      words = take (done.firings * width_of t) r.output;
    }

abbrev of : (start length : ℕ) → Row
of start length = record { start = start; length = length }

-- The cell and the one above it, in falling order and in rising order.
unfoldable pub down : List (List ℤ)
down = (pos 0 ∷ pos 0 ∷ []) ∷ (−1 ∷ pos 0 ∷ []) ∷ []

unfoldable pub up : List (List ℤ)
up = (−1 ∷ pos 0 ∷ []) ∷ (pos 0 ∷ pos 0 ∷ []) ∷ []

-- The cell alone.
unfoldable pub alone : List (List ℤ)
alone = (pos 0 ∷ pos 0 ∷ []) ∷ []

-- n cells one above the other.
unfoldable pub column : ℕ → List (List ℤ)
column n = map (λ (k : ℕ). let offset : List ℤ = neg_ℤ (pos k) ∷ pos 0 ∷ [] in offset) (up_to n)

-- n rows of 1,024 cells that start at 0 and at 1,023 by turns.
unfoldable pub zigzag : ℕ → List Row
zigzag n = map (λ (i : ℕ). of (cond (eqb (i % 2) 0) 1023 0) 1024) (up_to n)

abbrev box_of : (a b c d : ℕ) → Part
box_of a b c d = box (pos a ∷ pos b ∷ []) (pos c ∷ pos d ∷ [])

-- The rows of the request's two cases.
abbrev tapered : List Row
tapered = of 2 2 ∷ of 2 1 ∷ of 2 1 ∷ []

abbrev widened : List Row
widened = of 1 1 ∷ of 1 1 ∷ of 0 2 ∷ []

-- Three rows of five, each a column further on.
abbrev slanted : List Row
slanted = of 0 5 ∷ of 1 5 ∷ of 2 5 ∷ []

unfoldable pub plans : List Plan
plans =
    -- "Reuse distances now vary, and a planned capacity is the largest over all iterations": 2 and 1, and 1 and 2,
    record { on = tapered; part = whole; offsets = down; number = 0; capacities = 2 ∷ [] }
    ∷ record { on = widened; part = whole; offsets = up; number = 0; capacities = 2 ∷ [] }
    -- "or over the box's where a box is given"; 15 of a box with a vector that is no iteration
    ∷ record { on = tapered; part = box_of 1 2 2 2; offsets = down; number = 0; capacities = 2 ∷ [] }
    ∷ record { on = tapered; part = box_of 2 2 2 2; offsets = down; number = 0; capacities = 1 ∷ [] }
    ∷ record { on = widened; part = box_of 1 1 2 1; offsets = down; number = 0; capacities = 2 ∷ [] }
    ∷ record { on = tapered; part = box_of 1 2 1 3; offsets = down; number = 15; capacities = [] }
    ∷ record { on = tapered; part = box_of 0 2 1 2; offsets = down; number = 15; capacities = [] }
    -- the five-point cross, whose columns count: columns 2 to 4 of row 1
    ∷ record { on = slanted; part = whole; offsets = cross; number = 0; capacities = 3 ∷ 1 ∷ 1 ∷ 3 ∷ [] }
    -- rows without an iteration at either end or between do not count; 6 where none has one
    ∷ record {
      on = of 0 3 ∷ of 5 1 ∷ of 0 3 ∷ of 0 3 ∷ of 9 1 ∷ [];
      part = whole;
      offsets = down;
      number = 0;
      capacities = 3 ∷ [];
    }
    ∷ record { on = of 0 3 ∷ of 5 1 ∷ of 0 3 ∷ []; part = whole; offsets = down; number = 6; capacities = [] }
    -- 9 goes by the sum of the largest: 8 pairs of 2,047 fit, 9 do not, though first and last are never more than 10,239 apart
    ∷ record { on = zigzag 10; part = whole; offsets = column 9; number = 0; capacities = replicate 8 2047 }
    ∷ record { on = zigzag 11; part = whole; offsets = column 10; number = 9; capacities = [] }
    -- 16: "a row count, start or length outside its range", where 3 stands
    ∷ record { on = of 4095 1024 ∷ []; part = whole; offsets = alone; number = 0; capacities = [] }
    ∷ record { on = of 0 1 ∷ of 4096 1 ∷ []; part = whole; offsets = alone; number = 16; capacities = [] }
    ∷ record { on = of 0 1025 ∷ []; part = whole; offsets = alone; number = 16; capacities = [] }
    ∷ record { on = of 0 1 ∷ of 0 0 ∷ []; part = whole; offsets = alone; number = 16; capacities = [] }
    ∷ record { on = []; part = whole; offsets = []; number = 16; capacities = [] }
    ∷ record { on = replicate 512 (of 0 1); part = whole; offsets = alone; number = 0; capacities = [] }
    ∷ record { on = replicate 513 (of 0 1); part = whole; offsets = alone; number = 16; capacities = [] }
    ∷ []

unfoldable pub runs : List Run
runs =
    -- planned chains do fire late
    record {
      on = tapered;
      part = whole;
      offsets = down;
      capacities = 2 ∷ [];
      result = record { number = 0; outcome = 0; cells = 4; clocks = 5; firing = 2 ∷ 4 ∷ []; words = 2 ∷ 0 ∷ 3 ∷ 2 ∷ [] };
    }
    ∷ record {
      on = widened;
      part = whole;
      offsets = down;
      capacities = 2 ∷ [];
      result = record { number = 0; outcome = 0; cells = 4; clocks = 4; firing = 1 ∷ 3 ∷ []; words = 1 ∷ 0 ∷ 3 ∷ 1 ∷ [] };
    }
    -- "a shorter one makes every firing before the first that needs more, then stalls"
    ∷ record {
      on = widened;
      part = whole;
      offsets = down;
      capacities = 1 ∷ [];
      result = record { number = 0; outcome = 3; cells = 2; clocks = 2; firing = 1 ∷ []; words = 1 ∷ 0 ∷ [] };
    }
    -- in rising order none
    ∷ record {
      on = widened;
      part = whole;
      offsets = up;
      capacities = 2 ∷ [];
      result = record { number = 0; outcome = 3; cells = 0; clocks = 0; firing = []; words = [] };
    }
    -- the five-point cross
    ∷ record {
      on = slanted;
      part = whole;
      offsets = cross;
      capacities = 3 ∷ 1 ∷ 1 ∷ 3 ∷ [];
      result = record {
        number = 0;
        outcome = 0;
        cells = 13;
        clocks = 13;
        firing = 10 ∷ 11 ∷ 12 ∷ [];
        words = 10 ∷ 7 ∷ 6 ∷ 5 ∷ 2 ∷ 11 ∷ 8 ∷ 7 ∷ 6 ∷ 3 ∷ 12 ∷ 9 ∷ 8 ∷ 7 ∷ 4 ∷ [];
      };
    }
    -- a box on rows
    ∷ record {
      on = tapered;
      part = box_of 2 2 2 2;
      offsets = down;
      capacities = 1 ∷ [];
      result = record { number = 0; outcome = 0; cells = 4; clocks = 4; firing = 3 ∷ []; words = 3 ∷ 2 ∷ [] };
    }
    -- rows without an iteration between
    ∷ record {
      on = of 0 3 ∷ of 5 1 ∷ of 0 3 ∷ of 0 3 ∷ of 9 1 ∷ [];
      part = whole;
      offsets = down;
      capacities = 3 ∷ [];
      result = record
          { number = 0; outcome = 0; cells = 10; clocks = 10; firing = 7 ∷ 8 ∷ 9 ∷ []; words = 7 ∷ 4 ∷ 8 ∷ 5 ∷ 9 ∷ 6 ∷ [] };
    }
    ∷ []

pub plan_table : map planned plans ≡ map (λ p. (p.number, p.capacities)) plans
unfolding planned plans down up alone column zigzag cross
    tabulate up_to sum greatest all any some_below same above plus equal before is_zero natural first_entry other_entries least_from
    least
    cells_above row_cells cell_count has_column inside_rows inside row_place cell_place position row_at column_at cell_at is_iteration
    count vector smallest rows_down columns_on common_start common_end common_row all_iterations index_count widths equal_rows
    box_shape box_course course crossed reads_outside bad_box
    cells_of position_of course_of iterations_of iteration_of reads_of firsts_from firsts distance_in distance_of number_of
    verdict_number first_of
    bad_row bad_row_count bad_rows bad_count repeats no_iteration needs_centre lacks_centre bad_factor too_large twice bad_order
    window_checks kernel_checks chain_checks value_checks judged
    insert falling which_of authors_order distances sorted
plan_table = refl

pub run_table : map ran runs ≡ map (λ p. p.result) runs
unfolding ran runs down up start end_of firing_clocks cross
    tabulate up_to sum greatest all any some_below same above plus equal before is_zero natural first_entry other_entries least_from
    least
    cells_above row_cells cell_count has_column inside_rows inside row_place cell_place position row_at column_at cell_at is_iteration
    count vector smallest rows_down columns_on common_start common_end common_row all_iterations index_count widths equal_rows
    box_shape box_course course crossed reads_outside bad_box
    cells_of position_of course_of iterations_of iteration_of reads_of number_of outcome_case outcome_counts answer_counts answer_number
    first_of
    bad_row bad_row_count bad_rows bad_count repeats no_iteration needs_centre lacks_centre bad_factor too_large twice bad_order
    window_checks kernel_checks chain_checks value_checks
    words_at terms written width centre_of turn limit turns ready fires next moves first_place place_in presented stored
    layout counters_of with_counters outcome_of words clocked look call events short_store not_past bad_counter bad_fifo bad_filters
    bad_state judge_run begun filters_of terms_of writes_of written_by width_of
    ended run_trimmed events_trimmed
run_table = refl
