-- Run calls in full (document 01, "Running" and "Turned back on account of the state"): one table, computed.
use Rattle.std.specs.Prelude.{ℕ, false, ◌≡◌, refl, ℤ, pos, length, Ok, Err}
use mathlib.Core.List.{List, [], ◌∷◌, ◌++◌, map, flat_map}
use Rattle.model.specs.Lists.{tabulate, up_to, sum, product, greatest, all, any, some_below}
use Rattle.model.specs.Vectors.{same, above, plus, equal, is_zero}
use Rattle.model.specs.Geometry.{place, natural, first_entry, other_entries, least_from, least, lows, extent, extents, indices}
use Rattle.model.specs.Geometry as rectangular
use Rattle.model.specs.Grounds.{cell_count, inside, cell_place, position, cell_at, is_iteration}
use Rattle.model.specs.Courses.{count, vector, all_iterations}
use Rattle.model.specs.Boxes.{index_count, widths, box_shape, box_course, course, crossed, reads_outside, bad_box}
use Rattle.model.specs.Values.{sizes_of, offset_of, offsets_of, part_of, capacities_of, order_of, trimmed, ground_of, dims_of}
use Rattle.model.specs.Iterations.{cells_of, position_of, course_of, iterations_of, iteration_of, reads_of, firsts, distance_in}
use Rattle.model.specs.Answers.{first_of}
use Rattle.model.specs.Judging.{bad_dims, bad_sizes, bad_grid, bad_count, repeats, no_iteration, needs_centre, lacks_centre}
use Rattle.model.specs.Judging.{bad_factor, too_large, twice, bad_order, window_checks, kernel_checks, chain_checks, value_checks}
use Rattle.model_run.specs.Kernels.{words_at, terms, written, width}
use Rattle.model.specs.Windows.{centre_of}
use Rattle.model_run.specs.Clock.{turn, limit, turns, ready, fires, next, moves}
use Rattle.model_run.specs.Store.{first_place, place_in, presented, stored}
use Rattle.model_run.specs.Running.{layout, counters_of, with_counters, outcome_of, words, clocked, look, call, short_store}
use Rattle.model_run.specs.Running.{not_past, bad_counter, bad_fifo, bad_filters, bad_state, judge_run, begun, filters_of}
use Rattle.model_run.specs.Running.{terms_of, writes_of, written_by, width_of, ended, run_trimmed, Run, run_of}
use Rattle.model.specs.declared.CellsPassed.{CellsPassed}
use Rattle.model.specs.declared.Chain.{Chain}
use Rattle.model.specs.declared.State.{State}
use Rattle.model.specs.declared.Counts.{Counts}
use Rattle.model.specs.declared.Outcome.{Outcome}
use Rattle.model.specs.declared.Outcome.TheVariants as outcome
use Rattle.model.specs.declared.Refusal.{Refusal}
use Rattle.model.specs.declared.Refusal.TheVariants as refusal
use Rattle.model.specs.declared.Kernel.TheVariants as kernel

-- A chain, what is handed in and lent, and what the call leaves.
pub record Case : Type 0 where
  pub chain : Chain
  pub state : State
  pub store : List ℕ
  pub lent : List ℕ
  pub output : List ℕ
  pub allowance : ℕ
  pub leaves : Run

unfoldable pub answered : Case → Run
answered c = run_of c.chain [] c.state c.store c.lent c.output c.allowance

unfoldable pub expected : Case → Run
expected c = c.leaves

-- A raw chain in one dimension: its size, offsets and capacities. What stands past the counts would be turned back by 3 or 9
-- if it played a part, and its box and its order, whose lines are absent, by 15 and 14.
abbrev chain : ℕ → List ℤ → List ℕ → Chain
chain size offsets capacities = record {
  grid = record { skewed = false; rows = 0; dims = 1; sizes = size ∷ 0 ∷ 0 ∷ 0 ∷ [] };
  window = record {
    count = length offsets;
    offsets = flat_map (λ (x : ℤ). let offset : List ℤ = x ∷ x ∷ x ∷ x ∷ [] in offset) offsets;
  };
  bounds = record { stood = false; lowest = pos 9 ∷ []; highest = pos 8 ∷ [] };
  capacities = capacities ++ (99999 ∷ []);
  order = record { stood = false; filters = 99 ∷ 99 ∷ [] };
  kernel = kernel.Raw;
}

-- Firings made, and the input counters, with one past n that is above every cell count.
abbrev state : ℕ → List ℕ → State
state fired passed =
    record {
      passed = map (λ (p : ℕ). let passed : CellsPassed = record { 0 = p } in passed) (passed ++ (77 ∷ []));
      fired = record { 0 = fired };
    }

-- A call that ends: how, with the cells taken, the firings and the clocks; and what it leaves.
abbrev ends : Chain → State → (store lent output : List ℕ) (allowance : ℕ) → (Counts → Outcome) → (cells firings clocks : ℕ)
    → State → (store output : List ℕ) → Case
ends c s store lent output allowance o cells firings clocks s' store' output' = record {
  chain = c;
  state = s;
  store = store;
  lent = lent;
  output = output;
  allowance = allowance;
  leaves = record {
    answer = Ok (o (record { cells = cells; firings = firings; clocks = clocks }));
    state = s';
    store = store';
    output = output';
  };
}

-- One that ends before its first clock: all is left as it was.
abbrev at_once : Chain → State → (store lent output : List ℕ) (allowance : ℕ) → (Counts → Outcome) → Case
at_once c s store lent output allowance o = ends c s store lent output allowance o 0 0 0 s store output

-- "After each refusal of either list every lent buffer and the state are as before": lent two cells, four output places and
-- nine clocks.
abbrev refuses : Chain → State → (store : List ℕ) → Refusal → Case
refuses c s store r =
    let lent : List ℕ = 11 ∷ 12 ∷ [] in
    let output : List ℕ = 70 ∷ 71 ∷ 72 ∷ 73 ∷ [] in
    record {
      chain = c;
      state = s;
      store = store;
      lent = lent;
      output = output;
      allowance = 9;
      leaves = record { answer = Err r; state = s; store = store; output = output };
    }

-- Size 5, offsets 3 and 0: two iterations, which read 3 and 0, then 4 and 1.
abbrev falls : (capacity : ℕ) → Chain
falls capacity = chain 5 (pos 3 ∷ pos 0 ∷ []) (capacity ∷ [])

-- Case 8, offset 0 before offset 3: stalled after 0 clocks.
abbrev rises : Chain
rises = chain 5 (pos 0 ∷ pos 3 ∷ []) (16 ∷ [])

-- Size 6, offsets 3, 1 and 0: three iterations; FIFO 0 has places 0 and 1, FIFO 1 place 2.
abbrev triple : Chain
triple = chain 6 (pos 3 ∷ pos 1 ∷ pos 0 ∷ []) (2 ∷ 1 ∷ [])

-- Size 9, offsets 6, 4 and 0: three iterations, of which the first two read 6, 4 and 0, then 7, 5 and 1.
abbrev three : (capacity capacity' : ℕ) → Chain
three capacity capacity' = chain 9 (pos 6 ∷ pos 4 ∷ pos 0 ∷ []) (capacity ∷ capacity' ∷ [])

-- Where words lie.
unfoldable pub places : List Case
places =
    -- "a cell of position p goes to the place of its FIFO numbered p remainder the capacity, and a word stays until
    -- overwritten": after cells 0 to 4, places 0, 1 and 2 hold cells 3, 4 and 2. "changes no later place": of the output, and
    -- here of the store.
    ends (falls 3) (state 0 (0 ∷ 0 ∷ [])) (90 ∷ 91 ∷ 92 ∷ 93 ∷ []) (11 ∷ 12 ∷ 13 ∷ 14 ∷ 15 ∷ [])
    (70 ∷ 71 ∷ 72 ∷ 73 ∷ 74 ∷ 75 ∷ []) 10
    outcome.Done 5 2 5 (state 2 (5 ∷ 2 ∷ [])) (14 ∷ 15 ∷ 13 ∷ 93 ∷ []) (14 ∷ 11 ∷ 15 ∷ 12 ∷ 74 ∷ 75 ∷ [])
    -- "FIFO 0's places come first in the store, then FIFO 1's": two clocks, then a whole run
    ∷ ends triple (state 0 (0 ∷ 0 ∷ 0 ∷ [])) (90 ∷ 91 ∷ 92 ∷ []) (11 ∷ 12 ∷ 13 ∷ []) [] 2
    outcome.Spent 2 0 2 (state 0 (2 ∷ 1 ∷ 0 ∷ [])) (11 ∷ 12 ∷ 11 ∷ []) []
    ∷ ends triple (state 0 (0 ∷ 0 ∷ 0 ∷ [])) (90 ∷ 91 ∷ 92 ∷ []) (11 ∷ 12 ∷ 13 ∷ 14 ∷ 15 ∷ 16 ∷ [])
    (70 ∷ 71 ∷ 72 ∷ 73 ∷ 74 ∷ 75 ∷ 76 ∷ 77 ∷ 78 ∷ []) 18
    outcome.Done 6 3 6 (state 3 (6 ∷ 4 ∷ 3 ∷ [])) (15 ∷ 16 ∷ 14 ∷ []) (14 ∷ 12 ∷ 11 ∷ 15 ∷ 13 ∷ 12 ∷ 16 ∷ 14 ∷ 13 ∷ [])
    ∷ []

-- What is looked at before a clock.
unfoldable pub looks : List Case
looks =
    -- "the first lent cell is the one at filter 0's input counter"; cells past the grid's are not taken
    ends (falls 3) (state 1 (4 ∷ 1 ∷ [])) (14 ∷ 12 ∷ 13 ∷ []) (15 ∷ 16 ∷ 17 ∷ []) (70 ∷ 71 ∷ []) 9
    outcome.Done 1 1 1 (state 2 (5 ∷ 2 ∷ [])) (14 ∷ 15 ∷ 13 ∷ []) (15 ∷ 12 ∷ [])
    -- "*Full*: the clock would fire and fewer output places are left than it writes": after a firing, at once, and not for a
    -- clock that does not fire
    ∷ ends (falls 3) (state 0 (3 ∷ 0 ∷ [])) (11 ∷ 12 ∷ 13 ∷ []) (14 ∷ 15 ∷ []) (70 ∷ 71 ∷ 72 ∷ []) 9
    outcome.Full 1 1 1 (state 1 (4 ∷ 1 ∷ [])) (14 ∷ 12 ∷ 13 ∷ []) (14 ∷ 11 ∷ 72 ∷ [])
    ∷ at_once (falls 3) (state 0 (3 ∷ 0 ∷ [])) (11 ∷ 12 ∷ 13 ∷ []) (14 ∷ []) (70 ∷ []) 9 outcome.Full
    ∷ ends (falls 3) (state 0 (0 ∷ 0 ∷ [])) (90 ∷ 91 ∷ 92 ∷ []) (11 ∷ []) [] 9
    outcome.Starved 1 0 1 (state 0 (1 ∷ 0 ∷ [])) (11 ∷ 91 ∷ 92 ∷ []) []
    -- "Before each clock these are looked at in this order": Done, where the allowance is 0; where no cell is lent; and where
    -- nothing would move
    ∷ at_once (falls 3) (state 2 (5 ∷ 2 ∷ [])) (14 ∷ 15 ∷ 13 ∷ []) (16 ∷ []) [] 0 outcome.Done
    ∷ at_once (falls 3) (state 2 (5 ∷ 2 ∷ [])) (14 ∷ 15 ∷ 13 ∷ []) [] [] 9 outcome.Done
    ∷ at_once rises (state 2 (5 ∷ 5 ∷ [])) (tabulate 16 (λ k. k)) (16 ∷ []) [] 9 outcome.Done
    -- Spent, where no cell is lent; where nothing would move; and where there is no place for a firing
    ∷ at_once (falls 3) (state 0 (0 ∷ 0 ∷ [])) (90 ∷ 91 ∷ 92 ∷ []) [] [] 0 outcome.Spent
    ∷ at_once rises (state 0 (0 ∷ 0 ∷ [])) (tabulate 16 (λ k. k)) (11 ∷ []) [] 0 outcome.Spent
    ∷ at_once (falls 3) (state 0 (3 ∷ 0 ∷ [])) (11 ∷ 12 ∷ 13 ∷ []) (14 ∷ []) [] 0 outcome.Spent
    -- Starved, where nothing would move; and where there is no place for a firing
    ∷ at_once rises (state 0 (0 ∷ 0 ∷ [])) (tabulate 16 (λ k. k)) [] [] 9 outcome.Starved
    ∷ at_once (falls 3) (state 0 (3 ∷ 0 ∷ [])) (11 ∷ 12 ∷ 13 ∷ []) [] [] 9 outcome.Starved
    -- Stalled; and with a capacity of 0, where no place is ever free. (A clock that would fire moves: Stalled and Full never
    -- apply at once.)
    ∷ at_once rises (state 0 (0 ∷ 0 ∷ [])) (tabulate 16 (λ k. k)) (11 ∷ []) [] 9 outcome.Stalled
    ∷ at_once (falls 0) (state 0 (0 ∷ 0 ∷ [])) [] (11 ∷ []) (70 ∷ 71 ∷ []) 9 outcome.Stalled
    ∷ []

-- What turns a call back.
unfoldable pub refusals : List Case
refusals =
    -- "A run looks at the chain first, then 10, then 11": equal offsets, a short store and a bad state; the last two; a short
    -- store alone
    refuses (chain 5 (pos 3 ∷ pos 3 ∷ []) (3 ∷ [])) (state 9 (9 ∷ 9 ∷ [])) (90 ∷ 91 ∷ []) refusal.EqualOffsets
    ∷ refuses (falls 3) (state 9 (9 ∷ 9 ∷ [])) (90 ∷ 91 ∷ []) refusal.ShortStore
    ∷ refuses (falls 3) (state 0 (0 ∷ 0 ∷ [])) (90 ∷ 91 ∷ []) refusal.ShortStore
    -- 11, each part of it alone: "more firings than iterations"
    ∷ refuses (falls 3) (state 3 (5 ∷ 3 ∷ [])) (90 ∷ 91 ∷ 92 ∷ []) refusal.BadState
    -- "an input counter past its next wanted cell": filter 0's is cell 3, filter 1's cell 0
    ∷ refuses (falls 4) (state 0 (4 ∷ 0 ∷ [])) (90 ∷ 91 ∷ 92 ∷ 93 ∷ []) refusal.BadState
    ∷ refuses (falls 3) (state 0 (2 ∷ 1 ∷ [])) (90 ∷ 91 ∷ 92 ∷ []) refusal.BadState
    -- "not past its last fired one": these were cells 3 and 0
    ∷ refuses (falls 3) (state 1 (3 ∷ 1 ∷ [])) (90 ∷ 91 ∷ 92 ∷ []) refusal.BadState
    ∷ refuses (falls 4) (state 1 (4 ∷ 0 ∷ [])) (90 ∷ 91 ∷ 92 ∷ 93 ∷ []) refusal.BadState
    -- "above the cell count", where every firing is made
    ∷ refuses (falls 3) (state 2 (6 ∷ 5 ∷ [])) (90 ∷ 91 ∷ 92 ∷ []) refusal.BadState
    -- "below the next filter's"
    ∷ refuses rises (state 0 (0 ∷ 1 ∷ [])) (tabulate 16 (λ k. k)) refusal.BadState
    -- "a FIFO over its capacity"
    ∷ refuses (falls 2) (state 0 (3 ∷ 0 ∷ [])) (90 ∷ 91 ∷ []) refusal.BadState
    -- with three filters: 10 by the sum of both capacities; 11 by the second FIFO alone, and not where it has a place more
    ∷ refuses (three 2 4) (state 0 (0 ∷ 0 ∷ 0 ∷ [])) (tabulate 5 (λ k. k)) refusal.ShortStore
    ∷ refuses (three 2 3) (state 0 (4 ∷ 4 ∷ 0 ∷ [])) (tabulate 5 (λ k. k)) refusal.BadState
    ∷ at_once (three 2 4) (state 0 (4 ∷ 4 ∷ 0 ∷ [])) (tabulate 6 (λ k. k)) (11 ∷ []) [] 0 outcome.Spent
    -- by filter 2 alone: past cell 0, its next wanted one; not past cell 0, its last fired one
    ∷ refuses (three 2 3) (state 0 (2 ∷ 1 ∷ 1 ∷ [])) (tabulate 5 (λ k. k)) refusal.BadState
    ∷ refuses (three 2 5) (state 1 (7 ∷ 5 ∷ 0 ∷ [])) (tabulate 7 (λ k. k)) refusal.BadState
    -- by filter 1 below filter 2: size 5, offsets 3, 0 and 1
    ∷ refuses (chain 5 (pos 3 ∷ pos 0 ∷ pos 1 ∷ []) (4 ∷ 4 ∷ [])) (state 0 (1 ∷ 0 ∷ 1 ∷ [])) (tabulate 8 (λ k. k))
    refusal.BadState
    ∷ []

abbrev AsExpected : List Case → Type 0
AsExpected cases = map answered cases ≡ map expected cases

pub table : AsExpected places × AsExpected looks × AsExpected refusals
unfolding answered expected places looks refusals flat_map
    tabulate up_to sum product greatest all any some_below same above plus equal is_zero
    rectangular.cell_count cell_count place natural position cell_place cell_at first_entry other_entries least_from least lows
    extent extents indices count vector all_iterations rectangular.inside inside is_iteration index_count widths box_shape
    box_course course crossed reads_outside bad_box cells_of position_of course_of iterations_of iteration_of reads_of firsts
    distance_in
    sizes_of ground_of dims_of offset_of offsets_of part_of capacities_of order_of trimmed first_of
    bad_dims bad_sizes bad_grid bad_count repeats no_iteration needs_centre lacks_centre bad_factor too_large twice bad_order
    window_checks kernel_checks chain_checks value_checks
    words_at terms written width centre_of turn limit turns ready fires next moves first_place place_in presented stored
    layout counters_of with_counters outcome_of words clocked look call short_store not_past bad_counter bad_fifo bad_filters bad_state
    judge_run begun filters_of terms_of writes_of written_by width_of ended run_trimmed run_of
table = (refl, refl, refl)
