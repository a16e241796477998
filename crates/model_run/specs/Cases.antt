-- Document 01, "Grids to try", 6 to 13, and its printed example: one table, computed.
use Rattle.std.specs.Result.{result_unwrap_or}
use Rattle.std.specs.Prelude.{ℕ, zero, suc, ◌*◌, Bool, false, cond, List, [], ◌∷◌, map, ◌≡◌, refl, ℤ, pos, length, take, replicate}
use Rattle.model.specs.Lists.{tabulate, up_to, sum, product, greatest, all, any, some_below}
use Rattle.model.specs.Vectors.{−1, same, above, plus, equal, before, is_zero}
use Rattle.model.specs.Geometry.{place, natural, first_entry, other_entries, least_from, least, lows, extent, extents, indices}
use Rattle.model.specs.Geometry as rectangular
use Rattle.model.specs.Grounds.{cell_count, inside, cell_place, position, cell_at, is_iteration}
use Rattle.model.specs.Grounds.Ground.{rectangle}
use Rattle.model.specs.Courses.{count, vector, all_iterations}
use Rattle.model.specs.Boxes.{Part, index_count, widths, box_shape, box_course, course, crossed, reads_outside, bad_box}
use Rattle.model.specs.Boxes.Part.{whole, box}
use Rattle.model.specs.Values.{sizes_of, offset_of, offsets_of, part_of, capacities_of, order_of, trimmed, bounds_of, chain_of}
use Rattle.model.specs.Values.{request_of, ground_of, dims_of, grid_of, blank_chain}
use Rattle.model.specs.Iterations.{cells_of, position_of, course_of, iterations_of, iteration_of, reads_of, firsts, distance_in}
use Rattle.model.specs.Iterations.{distance_of}
use Rattle.model.specs.Answers.{number_of, verdict_number, outcome_case, outcome_counts, answer_counts, answer_number, first_of}
use Rattle.model.specs.Judging.{bad_dims, bad_sizes, bad_grid, bad_count, repeats, no_iteration, needs_centre, lacks_centre}
use Rattle.model.specs.Judging.{not_finite, bad_factor, too_large, twice, bad_order, window_checks, kernel_checks, chain_checks}
use Rattle.model.specs.Judging.{value_checks, judged}
use Rattle.model.specs.Steps.{insert, falling, which_of, authors_order, distances, sorted}
use Rattle.model.specs.Planning.{trimmed_request, judge_request, planned_chain, plan_of}
use Rattle.model_run.specs.Kernels.{words_at, terms, written, width}
use Rattle.model.specs.Windows.{centre_of}
use Rattle.model_run.specs.Clock.{turn, limit, turns, ready, fires, next, moves}
use Rattle.model_run.specs.Store.{first_place, place_in, presented, stored}
use Rattle.model_run.specs.Running.{layout, counters_of, with_counters, outcome_of, words, clocked, look, call, events}
use Rattle.model_run.specs.Running.{short_store, not_past, bad_counter, bad_fifo, bad_filters, bad_state, judge_run, begun}
use Rattle.model_run.specs.Running.{filters_of, terms_of, writes_of, written_by, width_of, ended, run_trimmed, events_trimmed}
use Rattle.model.specs.declared.Chain.{Chain}
use Rattle.model.specs.declared.State.{State}
use Rattle.std.specs.Prelude.{Ok, Err}
use Rattle.model.specs.Answers.{Answer, verdict_of}
use Rattle.model.specs.declared.Kernel.TheVariants as kernel

-- A row of the table, with raw kernel, and a run that covers all iterations or those of a box.
pub data Case : Type 0 where
  -- Planned: the sizes and the offsets; the number, 0 for none, the offsets in the plan's order, the capacities and the
  -- author's order.
  plans_in : Part → List ℕ → List (List ℤ) → (number : ℕ) → List (List ℤ) → List ℕ → List ℕ → Case
  -- Run from a fresh state, lent all cells: the sizes, the offsets and the capacities as they stand; the outcome's place in
  -- the list of five, the cells taken, the clocks made, the clocks that fire, and the words written, where a cell's word is
  -- its position.
  runs_in : Part → List ℕ → List (List ℤ) → List ℕ → (outcome cells clocks : ℕ) → List ℕ → List ℕ → Case

-- Without a box.
abbrev plans : List ℕ → List (List ℤ) → (number : ℕ) → List (List ℤ) → List ℕ → List ℕ → Case
plans = plans_in whole

abbrev runs : List ℕ → List (List ℤ) → List ℕ → (outcome cells clocks : ℕ) → List ℕ → List ℕ → Case
runs = runs_in whole

-- What the definitions say of a row.
pub record Result : Type 0 where
  pub number : ℕ
  pub offsets : List (List ℤ)
  pub part : Part
  pub capacities : List ℕ
  pub order : List ℕ
  pub outcome : ℕ
  pub cells : ℕ
  pub clocks : ℕ
  pub firing : List ℕ
  pub words : List ℕ

unfoldable pub firing_clocks : ℕ → List Bool → List ℕ
firing_clocks t [] = []
firing_clocks t (e ∷ es) = let later = firing_clocks (suc t) es in cond e (t ∷ later) later

unfoldable pub end_of : Answer → ℕ
end_of (Ok o) = outcome_case o
end_of (Err r) = 5

-- The raw chain of these sizes, offsets and capacities, without an order.
abbrev raw_chain : Part → List ℕ → List (List ℤ) → List ℕ → Chain
raw_chain part sizes offsets capacities =
    chain_of (record {
      dims = length sizes;
      the_ground = rectangle sizes;
      count = length offsets;
      offsets = offsets;
      part = part;
      capacities = capacities;
      ordered = false;
      order = [];
      kernel = kernel.Raw;
    })

unfoldable pub planned : Part → List ℕ → List (List ℤ) → Result
planned part sizes offsets =
    let p = plan_of (request_of (raw_chain part sizes offsets [])) [] in
    let t = trimmed (result_unwrap_or p blank_chain) [] in
    record {
      number = verdict_number (verdict_of p);
      offsets = t.offsets;
      part = t.part;
      capacities = t.capacities;
      order = t.order;
      outcome = 0;
      cells = 0;
      clocks = 0;
      firing = [];
      words = [];
    }

unfoldable pub start : State
start = record { passed = replicate 32 (record { 0 = 0 }); fired = record { 0 = 0 } }

unfoldable pub ran : Part → List ℕ → List (List ℤ) → List ℕ → Result
ran part sizes offsets capacities =
    let c = raw_chain part sizes offsets capacities in
    let t = trimmed c [] in
    let cells = product sizes in
    let store : List ℕ = replicate (sum capacities) 0 in
    let lent : List ℕ = tabulate cells (λ p. p) in
    let output : List ℕ = replicate (cells * length offsets) 0 in
    let allowance = length offsets * cells in
    let r = run_trimmed t start store lent output allowance in
    let done = answer_counts r.answer in
    record {
      number = answer_number r.answer;
      offsets = offsets;
      part = part;
      capacities = capacities;
      order = [];
      outcome = end_of r.answer;
      cells = done.cells;
      clocks = done.clocks;
      firing = firing_clocks 0 (events_trimmed t start store lent output allowance);
      words = take (done.firings * width_of t) r.output;
    }

unfoldable pub answered : Case → Result
answered (plans_in part sizes offsets number arranged capacities order) = planned part sizes offsets
answered (runs_in part sizes offsets capacities outcome cells clocks firing words) = ran part sizes offsets capacities

-- A refusal hands back no box.
unfoldable pub copied : (number : ℕ) → Part → Part
copied zero part = part
copied (suc n) part = whole

unfoldable pub expected : Case → Result
expected (plans_in part sizes offsets number arranged capacities order) =
    record {
      number = number;
      offsets = arranged;
      part = copied number part;
      capacities = capacities;
      order = order;
      outcome = 0;
      cells = 0;
      clocks = 0;
      firing = [];
      words = [];
    }
expected (runs_in part sizes offsets capacities outcome cells clocks firing words) =
    record {
      number = 0;
      offsets = offsets;
      part = part;
      capacities = capacities;
      order = [];
      outcome = outcome;
      cells = cells;
      clocks = clocks;
      firing = firing;
      words = words;
    }

-- The five-point cross: centre and its four neighbours, in falling order.
unfoldable pub cross : List (List ℤ)
cross = (pos 1 ∷ pos 0 ∷ []) ∷ (pos 0 ∷ pos 1 ∷ []) ∷ (pos 0 ∷ pos 0 ∷ []) ∷ (pos 0 ∷ −1 ∷ []) ∷ (−1 ∷ pos 0 ∷ []) ∷ []

-- The same, rows from the top.
unfoldable pub cross_by_rows : List (List ℤ)
cross_by_rows = (−1 ∷ pos 0 ∷ []) ∷ (pos 0 ∷ −1 ∷ []) ∷ (pos 0 ∷ pos 0 ∷ []) ∷ (pos 0 ∷ pos 1 ∷ []) ∷ (pos 1 ∷ pos 0 ∷ []) ∷ []

-- A box of rows a to c and columns b to d.
abbrev rows_and_columns : (a b c d : ℕ) → Part
rows_and_columns a b c d = box (pos a ∷ pos b ∷ []) (pos c ∷ pos d ∷ [])

unfoldable pub cases : List Case
cases =
    -- 6. "4 by 5, five-point cross: 4, 1, 1, 4; firings in clocks 11, 12, 13, 16, 17, 18; 19 clocks."
    plans (4 ∷ 5 ∷ []) cross_by_rows 0 cross (4 ∷ 1 ∷ 1 ∷ 4 ∷ []) (4 ∷ 3 ∷ 2 ∷ 1 ∷ 0 ∷ [])
    ∷ runs (4 ∷ 5 ∷ []) cross (4 ∷ 1 ∷ 1 ∷ 4 ∷ []) 0 19 19 (11 ∷ 12 ∷ 13 ∷ 16 ∷ 17 ∷ 18 ∷ [])
    (11 ∷ 7 ∷ 6 ∷ 5 ∷ 1 ∷ 12 ∷ 8 ∷ 7 ∷ 6 ∷ 2 ∷ 13 ∷ 9 ∷ 8 ∷ 7 ∷ 3
    ∷ 16 ∷ 12 ∷ 11 ∷ 10 ∷ 6 ∷ 17 ∷ 13 ∷ 12 ∷ 11 ∷ 7 ∷ 18 ∷ 14 ∷ 13 ∷ 12 ∷ 8 ∷ [])
    -- 7. "Case 6 with 3, 1, 1, 4: stalled after 10 clocks and 10 cells, no firing."
    ∷ runs (4 ∷ 5 ∷ []) cross (3 ∷ 1 ∷ 1 ∷ 4 ∷ []) 3 10 10 [] []
    -- 8. "Size 5, offset 0 before offset 3, capacity 16: stalled after 0 clocks."
    ∷ runs (5 ∷ []) ((pos 0 ∷ []) ∷ (pos 3 ∷ []) ∷ []) (16 ∷ []) 3 0 0 [] []
    -- 9. "Size 1, offset 0: no FIFO, one firing in clock 0."
    ∷ plans (1 ∷ []) ((pos 0 ∷ []) ∷ []) 0 ((pos 0 ∷ []) ∷ []) [] (0 ∷ [])
    ∷ runs (1 ∷ []) ((pos 0 ∷ []) ∷ []) [] 0 1 1 (0 ∷ []) (0 ∷ [])
    -- 10. "Size 3, offsets −1 and 1: capacity 2. Size 2: refusal 6."
    ∷ plans (3 ∷ []) ((−1 ∷ []) ∷ (pos 1 ∷ []) ∷ []) 0 ((pos 1 ∷ []) ∷ (−1 ∷ []) ∷ []) (2 ∷ []) (1 ∷ 0 ∷ [])
    ∷ runs (3 ∷ []) ((pos 1 ∷ []) ∷ (−1 ∷ []) ∷ []) (2 ∷ []) 0 3 3 (2 ∷ []) (2 ∷ 0 ∷ [])
    ∷ plans (2 ∷ []) ((−1 ∷ []) ∷ (pos 1 ∷ []) ∷ []) 6 [] [] []
    -- 11. "Two rows of 5, offsets (0,3) and (1,−1): (1,−1) first, capacity 1. Two rows of 4: refusal 6."
    ∷ plans (2 ∷ 5 ∷ []) ((pos 0 ∷ pos 3 ∷ []) ∷ (pos 1 ∷ −1 ∷ []) ∷ []) 0 ((pos 1 ∷ −1 ∷ []) ∷ (pos 0 ∷ pos 3 ∷ []) ∷ [])
    (1 ∷ []) (1 ∷ 0 ∷ [])
    ∷ runs (2 ∷ 5 ∷ []) ((pos 1 ∷ −1 ∷ []) ∷ (pos 0 ∷ pos 3 ∷ []) ∷ []) (1 ∷ []) 0 6 6 (5 ∷ []) (5 ∷ 4 ∷ [])
    ∷ plans (2 ∷ 4 ∷ []) ((pos 0 ∷ pos 3 ∷ []) ∷ (pos 1 ∷ −1 ∷ []) ∷ []) 6 [] [] []
    -- 12. "Size 20,000, offsets 0 and 16,384: accepted. 0 and 16,385: refusal 9."
    ∷ plans (20000 ∷ []) ((pos 0 ∷ []) ∷ (pos 16384 ∷ []) ∷ []) 0 ((pos 16384 ∷ []) ∷ (pos 0 ∷ []) ∷ []) (16384 ∷ []) (1 ∷ 0 ∷ [])
    ∷ plans (20000 ∷ []) ((pos 0 ∷ []) ∷ (pos 16385 ∷ []) ∷ []) 9 [] [] []
    -- 13. "1024 by 1024, zero offset alone: accepted. Size 1,048,577: refusal 3."
    ∷ plans (1024 ∷ 1024 ∷ []) ((pos 0 ∷ pos 0 ∷ []) ∷ []) 0 ((pos 0 ∷ pos 0 ∷ []) ∷ []) [] (0 ∷ [])
    ∷ plans (1048577 ∷ []) ((pos 0 ∷ []) ∷ []) 3 [] [] []
    -- The printed example: "`plan` given .. writes these lines", "`run` given that and cells 1 to 5 writes".
    ∷ plans (5 ∷ []) ((pos 0 ∷ []) ∷ (pos 3 ∷ []) ∷ []) 0 ((pos 3 ∷ []) ∷ (pos 0 ∷ []) ∷ []) (3 ∷ []) (1 ∷ 0 ∷ [])
    ∷ runs (5 ∷ []) ((pos 3 ∷ []) ∷ (pos 0 ∷ []) ∷ []) (3 ∷ []) 0 5 5 (3 ∷ 4 ∷ []) (3 ∷ 0 ∷ 4 ∷ 1 ∷ [])
    -- Document 02, request 2: "the filter number of each term in turn", of three references whose order is not its own
    -- inverse; and Listing 1 of document 003, centre, left, right, up, down.
    ∷ plans (5 ∷ []) ((pos 0 ∷ []) ∷ (pos 2 ∷ []) ∷ (pos 1 ∷ []) ∷ []) 0 ((pos 2 ∷ []) ∷ (pos 1 ∷ []) ∷ (pos 0 ∷ []) ∷ [])
    (1 ∷ 1 ∷ []) (2 ∷ 0 ∷ 1 ∷ [])
    ∷ plans (4 ∷ 5 ∷ [])
    ((pos 0 ∷ pos 0 ∷ []) ∷ (pos 0 ∷ −1 ∷ []) ∷ (pos 0 ∷ pos 1 ∷ []) ∷ (−1 ∷ pos 0 ∷ []) ∷ (pos 1 ∷ pos 0 ∷ []) ∷ []) 0
    cross (4 ∷ 1 ∷ 1 ∷ 4 ∷ [])
    (2 ∷ 3 ∷ 1 ∷ 4 ∷ 0 ∷ [])
    -- Document 02, request 4, on case 6: row 1, columns 2 to 3, and rows 1 to 2, column 3. Planning copies the box.
    ∷ plans_in (rows_and_columns 1 2 1 3) (4 ∷ 5 ∷ []) cross_by_rows 0 cross (4 ∷ 1 ∷ 1 ∷ 4 ∷ []) (4 ∷ 3 ∷ 2 ∷ 1 ∷ 0 ∷ [])
    ∷ runs_in (rows_and_columns 1 2 1 3) (4 ∷ 5 ∷ []) cross (4 ∷ 1 ∷ 1 ∷ 4 ∷ []) 0 14 14 (12 ∷ 13 ∷ [])
    (12 ∷ 8 ∷ 7 ∷ 6 ∷ 2 ∷ 13 ∷ 9 ∷ 8 ∷ 7 ∷ 3 ∷ [])
    ∷ runs_in (rows_and_columns 1 3 2 3) (4 ∷ 5 ∷ []) cross (4 ∷ 1 ∷ 1 ∷ 4 ∷ []) 0 19 19 (13 ∷ 18 ∷ [])
    (13 ∷ 9 ∷ 8 ∷ 7 ∷ 3 ∷ 18 ∷ 14 ∷ 13 ∷ 12 ∷ 8 ∷ [])
    -- a shorter FIFO stalls there too, before any firing; the full box, written, runs as none, and is copied
    ∷ runs_in (rows_and_columns 1 2 1 3) (4 ∷ 5 ∷ []) cross (3 ∷ 1 ∷ 1 ∷ 4 ∷ []) 3 11 11 [] []
    ∷ plans_in (box (pos 0 ∷ []) (pos 1 ∷ [])) (5 ∷ []) ((pos 0 ∷ []) ∷ (pos 3 ∷ []) ∷ []) 0 ((pos 3 ∷ []) ∷ (pos 0 ∷ []) ∷ [])
    (3 ∷ []) (1 ∷ 0 ∷ [])
    ∷ runs_in (box (pos 0 ∷ []) (pos 1 ∷ [])) (5 ∷ []) ((pos 3 ∷ []) ∷ (pos 0 ∷ []) ∷ []) (3 ∷ []) 0 5 5 (3 ∷ 4 ∷ [])
    (3 ∷ 0 ∷ 4 ∷ 1 ∷ [])
    -- indices are entries of the vector, which may be negative: offsets 1 and 3 on 5 cells have iterations -1, 0 and 1
    ∷ runs_in (box (−1 ∷ []) (pos 0 ∷ [])) (5 ∷ []) ((pos 3 ∷ []) ∷ (pos 1 ∷ []) ∷ []) (2 ∷ []) 0 4 4 (2 ∷ 3 ∷ [])
    (2 ∷ 0 ∷ 3 ∷ 1 ∷ [])
    ∷ []

pub table : map answered cases ≡ map expected cases
unfolding answered copied expected cases cross cross_by_rows planned ran start end_of firing_clocks tabulate up_to sum product
    greatest all any some_below same above plus equal before is_zero rectangular.cell_count cell_count place natural position
    cell_place cell_at first_entry other_entries least_from least lows extent extents indices count vector all_iterations
    rectangular.inside inside is_iteration index_count widths box_shape box_course course crossed reads_outside bad_box cells_of
    position_of course_of iterations_of iteration_of reads_of firsts distance_in distance_of sizes_of ground_of dims_of offset_of
    offsets_of part_of capacities_of order_of trimmed chain_of grid_of bounds_of number_of verdict_number outcome_case outcome_counts
    answer_counts answer_number first_of bad_dims bad_sizes bad_grid bad_count repeats no_iteration needs_centre lacks_centre not_finite
    bad_factor too_large twice bad_order window_checks kernel_checks chain_checks value_checks judged insert falling which_of
    authors_order distances trimmed_request judge_request sorted planned_chain plan_of words_at terms written width centre_of turn
    limit turns ready fires next moves first_place place_in presented stored layout counters_of with_counters outcome_of words
    clocked look call events short_store not_past bad_counter bad_fifo bad_filters bad_state judge_run begun filters_of terms_of
    writes_of written_by width_of ended run_trimmed events_trimmed
table = refl
