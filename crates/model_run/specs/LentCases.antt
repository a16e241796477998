-- What a call has to be lent, exactly (document 01, "Running", last paragraph): case 6, from the start and midway.
use Rattle.std.specs.Prelude.{ℕ, ◌-◌, false, [], ◌∷◌, refl, replicate}
use Rattle.std.proofs.Common.{true≢false, arith}
use Rattle.model.specs.Lists.{tabulate, up_to, sum, product, greatest, all, any, some_below}
use Rattle.model.specs.Vectors.{same, above, plus, equal, before, is_zero}
use Rattle.model.specs.Geometry.{place, natural, first_entry, other_entries, least_from, least, lows, extent, extents, indices}
use Rattle.model.specs.Geometry as rectangular
use Rattle.model.specs.Grounds.{cell_count, inside, cell_place, position, cell_at, is_iteration}
use Rattle.model.specs.Grounds.Ground.{rectangle}
use Rattle.model.specs.Courses.{count, vector, all_iterations}
use Rattle.model.specs.Boxes.{index_count, widths, box_shape, box_course, course, crossed, reads_outside, bad_box}
use Rattle.model.specs.Boxes.Part.{whole}
use Rattle.model.specs.Values.{Trimmed}
use Rattle.model.specs.Iterations.{cells_of, position_of, course_of, iterations_of, iteration_of, reads_of}
use Rattle.model.specs.Answers.{first_of}
use Rattle.model.specs.Judging.{bad_dims, bad_sizes, bad_grid, bad_count, repeats, no_iteration, needs_centre, lacks_centre}
use Rattle.model.specs.Judging.{bad_factor, too_large, twice, bad_order, window_checks, kernel_checks, chain_checks, value_checks}
use Rattle.model.specs.Windows.{centre_of}
use Rattle.model.specs.declared.Kernel.TheVariants as kernel
use Rattle.model.specs.declared.Outcome.TheVariants as outcome
use Rattle.model_run.specs.Kernels.{words_at, terms, written, width}
use Rattle.model_run.specs.Clock.{turn, limit, turns, ready, fires, next, moves}
use Rattle.model_run.specs.Store.{first_place, place_in, presented, stored}
use Rattle.model_run.specs.Running.{layout, counters_of, with_counters, outcome_of, words, clocked, look, call, short_store}
use Rattle.model_run.specs.Running.{not_past, bad_counter, bad_fifo, bad_filters, bad_state, judge_run, begun, filters_of}
use Rattle.model_run.specs.Running.{terms_of, writes_of, written_by, width_of, ended, run_trimmed}
use Rattle.model_run.specs.CallLists.{Lending, Between, LentEnough, lent_cells, call_run, after}
use Rattle.model_run.specs.Reports.{Reports}
use Rattle.model_run.specs.Cases.{cross, start}

-- Case 6: 20 cells, 6 iterations, 5 references.
abbrev pub six : Trimmed
six = record {
  dims = 2;
  the_ground = rectangle (4 ∷ 5 ∷ []);
  count = 5;
  offsets = cross;
  part = whole;
  capacities = 4 ∷ 1 ∷ 1 ∷ 4 ∷ [];
  ordered = false;
  order = [];
  kernel = kernel.Raw;
}

-- So many cells, output places, clocks and words of the store's front.
abbrev pub lends : (cells places clocks words : ℕ) → Lending
lends cells places clocks words = record { cells = cells; output = replicate places 0; allowance = clocks; front = words }

-- A fresh state, and a store with two words more than are needed.
abbrev pub at_start : Between
at_start = record { state = start; store = replicate 12 0 }

-- Behind 13 clocks, with two firings.
unfoldable pub midway : Between
midway = after six (λ p. p) (lends 13 10 13 10) at_start

-- Lent so much a call is lent enough and ends Done; with one less of anything it is not lent enough.
pub record Exactly (b : Between) (cells places clocks words : ℕ) : Type 0 where
  pub enough : LentEnough six (lends cells places clocks words) b
  pub done : Reports outcome.Done (call_run six (λ p. p) (lends cells places clocks words) b)
  pub cell_less : LentEnough six (lends (cells - 1) places clocks words) b → ⊥
  pub place_less : LentEnough six (lends cells (places - 1) clocks words) b → ⊥
  pub clock_less : LentEnough six (lends cells places (clocks - 1) words) b → ⊥
  pub word_less : LentEnough six (lends cells places clocks (words - 1)) b → ⊥

-- "all cells not yet taken, places for all firings not yet made, an allowance of at least n times the number of cells and a
-- store that 10 does not refuse"
pub table : Exactly at_start 20 30 100 10 × Exactly midway 7 20 100 10
unfolding cross start midway
    tabulate up_to sum product greatest all any some_below same above plus equal before is_zero
    rectangular.cell_count cell_count place natural position cell_place cell_at first_entry other_entries least_from least lows
    extent extents indices count vector all_iterations rectangular.inside inside is_iteration index_count widths box_shape
    box_course course crossed reads_outside bad_box cells_of position_of course_of iterations_of iteration_of reads_of first_of
    bad_dims bad_sizes bad_grid bad_count repeats no_iteration needs_centre lacks_centre bad_factor too_large twice bad_order
    window_checks kernel_checks chain_checks value_checks
    words_at terms written width centre_of turn limit turns ready fires next moves first_place place_in presented stored
    layout counters_of with_counters outcome_of words clocked look call short_store not_past bad_counter bad_fifo bad_filters bad_state
    judge_run begun filters_of terms_of writes_of written_by width_of ended run_trimmed lent_cells call_run after
table = (
  record {
    enough = record { cells = omega arith; places = omega arith; clocks = omega arith; store = refl };
    done = record { counts = record { cells = 19; firings = 6; clocks = 19 }; answer = refl };
    cell_less = λ h. omega (arith, h.cells);
    place_less = λ h. omega (arith, h.places);
    clock_less = λ h. omega (arith, h.clocks);
    word_less = λ h. true≢false h.store;
  },
  record {
    enough = record { cells = omega arith; places = omega arith; clocks = omega arith; store = refl };
    done = record { counts = record { cells = 6; firings = 4; clocks = 6 }; answer = refl };
    cell_less = λ h. omega (arith, h.cells);
    place_less = λ h. omega (arith, h.places);
    clock_less = λ h. omega (arith, h.clocks);
    word_less = λ h. true≢false h.store;
  },
)
