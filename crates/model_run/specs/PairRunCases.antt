-- Run calls of a pair in full (document 02, request 6): one table, computed; the expected side is worked out by hand.
use Rattle.std.specs.Prelude.{ℕ, true, false, ◌≡◌, refl, ℤ, pos, length, get_or, replicate, Ok, Err}
use mathlib.Core.List.{List, [], ◌∷◌, ◌++◌, map, flat_map}
use Rattle.std.specs.Float.Ieee.{of_bits, to_bits, add, sub, mul}
use Rattle.model.specs.Lists.{tabulate, up_to, without, sum, product, greatest, all, any, some_below}
use Rattle.model.specs.Vectors.{−1, same, above, plus, equal, is_zero}
use Rattle.model.specs.Geometry.{place, natural, first_entry, other_entries, least_from, least, lows, extent, extents, indices}
use Rattle.model.specs.Geometry as rectangular
use Rattle.model.specs.Grounds.{cell_count, inside, cell_place, position, cell_at, is_iteration}
use Rattle.model.specs.Courses.{count, vector, all_iterations}
use Rattle.model.specs.Boxes.{index_count, widths, box_shape, box_course, course, crossed, reads_outside, bad_box}
use Rattle.model.specs.Values.{sizes_of, offset_of, offsets_of, part_of, capacities_of, order_of, trimmed, ground_of, dims_of, no_bounds}
use Rattle.model.specs.Iterations.{cells_of, position_of, course_of, iterations_of, iteration_of, reads_of, firsts, distance_in}
use Rattle.model.specs.Answers.{first_of}
use Rattle.model.specs.Judging.{bad_dims, bad_sizes, bad_grid, bad_count, repeats, no_iteration, needs_centre, lacks_centre}
use Rattle.model.specs.Judging.{not_finite, bad_factor, too_large}
use Rattle.model.specs.Steps.{which_of}
use Rattle.model.specs.Windows.{centre_of}
use Rattle.model.specs.Pairs.{own_of, member, distinct, union, not_union, raw_of, pair_checks}
use Rattle.model_run.specs.Kernels.{float, sum_from, sum_of, words_at, terms, squared, difference, scaled, blend, written}
use Rattle.model_run.specs.Kernels.{width}
use Rattle.model_run.specs.Clock.{turn, limit, turns, ready, fires, next, moves}
use Rattle.model_run.specs.Store.{first_place, place_in, presented, stored}
use Rattle.model_run.specs.Running.{layout, counters_of, with_counters, outcome_of, words, clocked, look, call, short_store}
use Rattle.model_run.specs.Running.{not_past, bad_counter, bad_fifo, bad_filters, bad_state, begun, filters_of, terms_of}
use Rattle.model_run.specs.Running.{writes_of, written_by, width_of, ended}
use Rattle.model_run.specs.PairRuns.{held_by, kept, in_chain_order, own_gives, own_words, own_width, by_rows, PairRun}
use Rattle.model_run.specs.PairRuns.{judge_pair, room_for, pair_ended, pair_output, run_pair, run_pair_of}
use Rattle.model.specs.declared.CellsPassed.{CellsPassed}
use Rattle.model.specs.declared.Chain.{Chain}
use Rattle.model.specs.declared.Counts.{Counts}
use Rattle.model.specs.declared.Kernel.{Kernel}
use Rattle.model.specs.declared.Kernel.TheVariants as kernel
use Rattle.model.specs.declared.Outcome.{Outcome}
use Rattle.model.specs.declared.Outcome.TheVariants as outcome
use Rattle.model.specs.declared.Refusal.{Refusal}
use Rattle.model.specs.declared.Refusal.TheVariants as refusal
use Rattle.model.specs.declared.Side.{Side}
use Rattle.model.specs.declared.State.{State}
use Rattle.model.specs.declared.Window.{Window}

-- A chain and two windows, what is handed in and lent, and what the call leaves.
pub record Case : Type 0 where
  pub chain : Chain
  pub fuel : Side
  pub timing : Side
  pub state : State
  pub store : List ℕ
  pub lent : List ℕ
  pub first : List ℕ
  pub second : List ℕ
  pub allowance : ℕ
  pub leaves : PairRun

unfoldable pub answered : Case → PairRun
answered c = run_pair_of c.chain [] c.fuel c.timing c.state c.store c.lent c.first c.second c.allowance

unfoldable pub expected : Case → PairRun
expected c = c.leaves

-- Offsets of two entries; what stands past them plays no part.
abbrev at : ℤ → ℤ → List ℤ
at y x = y ∷ x ∷ pos 9 ∷ pos 8 ∷ []

abbrev window : List (List ℤ) → Window
window os = record { count = length os; offsets = flat_map (λ (o : List ℤ). o) os }

abbrev side : Kernel → List (List ℤ) → Side
side k os = record { window = window os; kernel = k }

-- The five-point cross on 4 by 5, case 6 of document 01. Its own kernel, with an infinite factor, and its own order, with a
-- filter 99, play no part.
abbrev cross : Chain
cross = record {
  grid = record { skewed = false; rows = 0; dims = 2; sizes = 4 ∷ 5 ∷ 0 ∷ 0 ∷ [] };
  window = window (at (pos 1) (pos 0) ∷ at (pos 0) (pos 1) ∷ at (pos 0) (pos 0) ∷ at (pos 0) −1 ∷ at −1 (pos 0) ∷ []);
  bounds = no_bounds;
  capacities = 4 ∷ 1 ∷ 1 ∷ 4 ∷ [];
  order = record { stood = true; filters = 99 ∷ 99 ∷ [] };
  kernel = kernel.Scaled (float 0x7F800000);
}

-- Fuel: the difference of the cell, the one to the right and the one to the left; timing: below and above, raw, the author's
-- first reference being the one above.
abbrev fuel : Side
fuel = side kernel.Difference (at (pos 0) (pos 1) ∷ at (pos 0) (pos 0) ∷ at (pos 0) −1 ∷ [])

abbrev timing : Side
timing = side kernel.Raw (at −1 (pos 0) ∷ at (pos 1) (pos 0) ∷ [])

abbrev state : ℕ → List ℕ → State
state fired passed = record {
  passed = map (λ (p : ℕ). let passed : CellsPassed = record { 0 = p } in passed) (passed ++ (77 ∷ []));
  fired = record { 0 = fired };
}

-- The cells: 0, 1, 4, 9, .. 361, the square of each position.
abbrev squares : List ℕ
squares = 0 ∷ 0x3F800000 ∷ 0x40800000 ∷ 0x41100000 ∷ 0x41800000 ∷ 0x41C80000 ∷ 0x42100000 ∷ 0x42440000 ∷ 0x42800000 ∷ 0x42A20000
    ∷ 0x42C80000 ∷ 0x42F20000 ∷ 0x43100000 ∷ 0x43290000 ∷ 0x43440000 ∷ 0x43610000 ∷ 0x43800000 ∷ 0x43908000 ∷ 0x43A20000
    ∷ 0x43B48000 ∷ []

-- Those at some positions.
abbrev cells_at : List ℕ → List ℕ
cells_at ps = map (λ (p : ℕ). get_or squares p 0) ps

abbrev zeros : ℕ → List ℕ
zeros n = replicate n 0

-- A call of the cross, fresh, lent all cells.
abbrev ran : Side → Side → (first second : List ℕ) → (Counts → Outcome) → Counts → State → (store first' second' : List ℕ) → Case
ran x y first second o done s' store' first' second' = record {
  chain = cross;
  fuel = x;
  timing = y;
  state = state 0 (zeros 5);
  store = zeros 10;
  lent = squares;
  first = first;
  second = second;
  allowance = 100;
  leaves = record { answer = Ok (o done); state = s'; store = store'; first = first'; second = second' };
}

abbrev counts : (cells firings clocks : ℕ) → Counts
counts cells firings clocks = record { cells = cells; firings = firings; clocks = clocks }

unfoldable pub runs : List Case
runs =
    -- Six firings, 19 clocks; fuel has 290, 394, 514, 970, 1154, 1354, as (36 - 49)² + (36 - 25)²; later places stay
    ran fuel timing (zeros 6 ++ (70 ∷ [])) (zeros 12 ++ (80 ∷ 81 ∷ [])) outcome.Done (counts 19 6 19)
    (state 6 (19 ∷ 15 ∷ 14 ∷ 13 ∷ 9 ∷ [])) (cells_at (16 ∷ 17 ∷ 18 ∷ 15 ∷ 14 ∷ 13 ∷ 12 ∷ 9 ∷ 10 ∷ 11 ∷ []))
    (0x43910000 ∷ 0x43C50000 ∷ 0x44008000 ∷ 0x44728000 ∷ 0x44904000 ∷ 0x44A94000 ∷ 70 ∷ [])
    (cells_at (11 ∷ 1 ∷ 12 ∷ 2 ∷ 13 ∷ 3 ∷ 16 ∷ 6 ∷ 17 ∷ 7 ∷ 18 ∷ 8 ∷ []) ++ (80 ∷ 81 ∷ []))
    -- Full: the second output has places for two firings and a half, and of the third firing, which clock 13 would make, neither
    -- is written
    ∷ ran fuel timing (zeros 6) (zeros 5) outcome.Full (counts 13 2 13)
    (state 2 (13 ∷ 9 ∷ 8 ∷ 7 ∷ 3 ∷ [])) (cells_at (12 ∷ 9 ∷ 10 ∷ 11 ∷ 8 ∷ 7 ∷ 4 ∷ 5 ∷ 6 ∷ 3 ∷ []))
    (0x43910000 ∷ 0x43C50000 ∷ zeros 4) (cells_at (11 ∷ 1 ∷ 12 ∷ 2 ∷ []) ++ (0 ∷ []))
    -- the first has places for none
    ∷ ran fuel timing [] (zeros 12) outcome.Full (counts 11 0 11)
    (state 0 (11 ∷ 7 ∷ 6 ∷ 5 ∷ 1 ∷ [])) (cells_at (8 ∷ 9 ∷ 10 ∷ 7 ∷ 6 ∷ 5 ∷ 4 ∷ 1 ∷ 2 ∷ 3 ∷ [])) [] (zeros 12)
    -- "terms in that window's author's order": 2^24, 1 and 1 added from either end
    ∷ record {
      chain = record {
        grid = record { skewed = false; rows = 0; dims = 1; sizes = 3 ∷ 0 ∷ 0 ∷ 0 ∷ [] };
        window = window (at (pos 1) (pos 7) ∷ at (pos 0) (pos 7) ∷ at −1 (pos 7) ∷ []);
        bounds = no_bounds;
        capacities = 1 ∷ 1 ∷ [];
        order = record { stood = false; filters = [] };
        kernel = kernel.Raw;
      };
      fuel = side (kernel.Scaled (float 0x3F800000)) (at −1 (pos 6) ∷ at (pos 0) (pos 6) ∷ at (pos 1) (pos 6) ∷ []);
      timing = side (kernel.Scaled (float 0x3F800000)) (at (pos 0) (pos 5) ∷ at (pos 1) (pos 5) ∷ at −1 (pos 5) ∷ []);
      state = state 0 (zeros 3);
      store = zeros 2;
      lent = 0x4B800000 ∷ 0x3F800000 ∷ 0x3F800000 ∷ [];
      first = zeros 1;
      second = zeros 1;
      allowance = 9;
      leaves = record {
        answer = Ok (outcome.Done (counts 3 1 3));
        state = state 1 (3 ∷ 2 ∷ 1 ∷ []);
        store = 0x3F800000 ∷ 0x3F800000 ∷ [];
        first = 0x4B800000 ∷ [];
        second = 0x4B800001 ∷ [];
      };
    }
    ∷ []

abbrev turned_back : Side → Side → State → (store : List ℕ) → Refusal → Case
turned_back x y s store r = record {
  chain = cross;
  fuel = x;
  timing = y;
  state = s;
  store = store;
  lent = squares;
  first = 70 ∷ [];
  second = 80 ∷ 81 ∷ [];
  allowance = 100;
  leaves = record { answer = Err r; state = s; store = store; first = 70 ∷ []; second = 80 ∷ 81 ∷ [] };
}

unfoldable pub refusals : List Case
refusals =
    -- 14 before 10, 10 before 11
    turned_back timing timing (state 9 (zeros 5)) (zeros 9) refusal.BadOrder
    ∷ turned_back fuel timing (state 9 (zeros 5)) (zeros 9) refusal.ShortStore
    ∷ turned_back fuel timing (state 9 (zeros 5)) (zeros 10) refusal.BadState
    ∷ []

abbrev AsExpected : List Case → Type 0
AsExpected cases = map answered cases ≡ map expected cases

pub table : AsExpected runs × AsExpected refusals
unfolding answered expected runs refusals flat_map of_bits to_bits add sub mul
    tabulate up_to without sum product greatest all any some_below same above plus equal is_zero
    rectangular.cell_count cell_count place natural position cell_place cell_at first_entry other_entries least_from least lows
    extent extents indices count vector all_iterations rectangular.inside inside is_iteration index_count widths box_shape
    box_course course crossed reads_outside bad_box cells_of position_of course_of iterations_of iteration_of reads_of firsts
    distance_in
    sizes_of ground_of dims_of offset_of offsets_of part_of capacities_of order_of trimmed first_of
    bad_dims bad_sizes bad_grid bad_count repeats no_iteration needs_centre lacks_centre not_finite bad_factor too_large which_of
    sum_from sum_of words_at terms squared difference scaled blend written width centre_of
    turn limit turns ready fires next moves first_place place_in presented stored
    layout counters_of with_counters outcome_of words clocked look call short_store not_past bad_counter bad_fifo bad_filters bad_state
    begun filters_of terms_of writes_of written_by width_of ended
    own_of member distinct union not_union pair_checks
    held_by kept in_chain_order own_gives own_words own_width by_rows raw_of judge_pair room_for pair_ended pair_output run_pair run_pair_of
table = (refl, refl)
