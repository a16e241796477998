-- Values of which the premises hold that no statement concludes, by computation (`LentEnough` has its own beside its
-- definition): whoever asks for more in one of them is refused here.
use Rattle.std.specs.Prelude.{ℕ, zero, suc, ◌-◌, true, false, List, [], ◌∷◌, ◌≡◌, refl, pos, Ok}
use Rattle.std.proofs.Common.{true≢false, arith}
use Rattle.model.specs.Lists.{tabulate, sum, product, greatest, all, any}
use Rattle.model.specs.Vectors.{same, above, plus, equal, before, is_zero}
use Rattle.model.specs.Geometry.{first_entry, other_entries, least_from, least, lows, extent, extents}
use Rattle.model.specs.Geometry as rectangular
use Rattle.model.specs.Grounds.{cell_count}
use Rattle.model.specs.Courses.{count, all_iterations}
use Rattle.model.specs.Boxes.{bad_box}
use Rattle.model.specs.Values.{Trimmed, sizes_of, offset_of, offsets_of, part_of, capacities_of, order_of, trimmed, ground_of, dims_of}
use Rattle.model.specs.Windows.{Members}
use Rattle.model.specs.Answers.{first_of}
use Rattle.model.specs.Judging.{bad_dims, bad_sizes, bad_grid, bad_count, repeats, no_iteration, needs_centre, lacks_centre}
use Rattle.model.specs.Judging.{bad_factor, too_large, twice, bad_order, window_checks, kernel_checks, chain_checks, value_checks}
use Rattle.model.specs.Judging.{judged, judge_chain}
use Rattle.model.specs.declared.CellsPassed.{CellsPassed}
use Rattle.model.specs.declared.Chain.{Chain}
use Rattle.model.specs.declared.Kernel.TheVariants as kernel
use Rattle.model_run.specs.Kernels.{width}
use Rattle.model_run.specs.Clock.{fresh}
use Rattle.model_run.specs.Running.{layout, counters_of, width_of, short_store}
use Rattle.model_run.specs.CallLists.{Lending, Between, Fresh}
use Rattle.model_run.specs.Cases.{cross, cross_by_rows}
use Rattle.model_run.specs.LentCases.{six, lends, at_start}
use Rattle.demands.specs.Plan.{SameWindow}
use Rattle.demands.specs.Demand3.{ListOfCalls}
use Rattle.demands.specs.Promises.{Piece, SameRun, SameStart}

-- "a clock, a cell, places for a firing and such a store", exactly, on case 6: one cell, five places, one clock, ten words;
-- and with one less of anything it is no such lending.
pub record ExactPiece (cells places clocks words : ℕ) : Type 0 where
  pub enough : Piece six (lends cells places clocks words) at_start
  pub cell_less : Piece six (lends (cells - 1) places clocks words) at_start → ⊥
  pub place_less : Piece six (lends cells (places - 1) clocks words) at_start → ⊥
  pub clock_less : Piece six (lends cells places (clocks - 1) words) at_start → ⊥
  pub word_less : Piece six (lends cells places clocks (words - 1)) at_start → ⊥

pub piece : ExactPiece 1 5 1 10
unfolding sum short_store width width_of
piece = record {
  enough = record { clock = omega arith; cell = omega arith; places = omega arith; store = refl };
  cell_less = λ h. omega (arith, h.cell);
  place_less = λ h. omega (arith, h.places);
  clock_less = λ h. omega (arith, h.clock);
  word_less = λ h. true≢false h.store;
}

-- Case 6 with the rows from the top, other capacities, an order and another kernel.
abbrev pub other : Trimmed
other = record {
  dims = 2;
  the_ground = six.the_ground;
  count = 5;
  offsets = cross_by_rows;
  part = six.part;
  capacities = 1 ∷ 2 ∷ 3 ∷ 4 ∷ [];
  ordered = true;
  order = 4 ∷ 3 ∷ 2 ∷ 1 ∷ 0 ∷ [];
  kernel = kernel.Difference;
}

each : Members cross cross_by_rows
unfolding cross cross_by_rows
each zero h = (4, omega arith, refl)
each (suc zero) h = (3, omega arith, refl)
each (suc (suc zero)) h = (2, omega arith, refl)
each (suc (suc (suc zero))) h = (1, omega arith, refl)
each (suc (suc (suc (suc zero)))) h = (0, omega arith, refl)
each (suc (suc (suc (suc (suc k))))) h = absurd (omega (arith, h))

no_other : Members cross_by_rows cross
unfolding cross cross_by_rows
no_other zero h = (4, omega arith, refl)
no_other (suc zero) h = (3, omega arith, refl)
no_other (suc (suc zero)) h = (2, omega arith, refl)
no_other (suc (suc (suc zero))) h = (1, omega arith, refl)
no_other (suc (suc (suc (suc zero)))) h = (0, omega arith, refl)
no_other (suc (suc (suc (suc (suc k))))) h = absurd (omega (arith, h))

pub same_window : SameWindow six other
same_window = record { the_ground = refl; part = refl; each = each; no_other = no_other }

-- Document 01's chain, with these numbers past its counts: it is accepted, and a state without a count is fresh.
abbrev pub printed : (past : List ℕ) → Chain
printed past = record {
  grid = record { skewed = false; rows = 0; dims = 1; sizes = 5 ∷ past };
  window = record { count = 2; offsets = pos 3 ∷ pos 0 ∷ pos 0 ∷ pos 0 ∷ pos 0 ∷ [] };
  bounds = record { stood = false; lowest = []; highest = [] };
  capacities = 3 ∷ past;
  order = record { stood = false; filters = past };
  kernel = kernel.Raw;
}

pub accepted : (past rows : List ℕ) → judge_chain (printed past) rows ≡ Ok tt
unfolding tabulate sum product greatest all any same above plus equal before is_zero
    rectangular.cell_count cell_count first_entry other_entries least_from least lows extent extents count all_iterations bad_box
    sizes_of ground_of dims_of offset_of offsets_of part_of capacities_of order_of trimmed first_of
    bad_dims bad_sizes bad_grid bad_count repeats no_iteration needs_centre lacks_centre bad_factor too_large twice bad_order
    window_checks kernel_checks chain_checks value_checks judged judge_chain
accepted past rows = refl

abbrev pub unmoved : (others : List CellsPassed) (store : List ℕ) → Between
unmoved others store = record {
  state = record { passed = record { 0 = 0 } ∷ record { 0 = 0 } ∷ others; fired = record { 0 = 0 } };
  store = store;
}

pub fresh_state : (past rows : List ℕ) (others : List CellsPassed) (store : List ℕ)
    → Fresh (trimmed (printed past) rows) (unmoved others store)
unfolding tabulate trimmed counters_of layout fresh
fresh_state past rows others store = record { counters = refl }

-- A list of calls on it, with these rows beside it, from these counters past n and this store.
abbrev pub listed : (past rows : List ℕ) (others : List CellsPassed) (store : List ℕ) → List Lending → ListOfCalls
listed past rows others store calls = record {
  chain = printed past;
  rows = rows;
  accepted = accepted past rows;
  stream = λ p. p;
  start = unmoved others store;
  fresh = fresh_state past rows others store;
  calls = calls;
}

-- Two such lists are on one chain and one stream, whatever those are.
pub same_run : (past past' rows rows' : List ℕ) (others others' : List CellsPassed) (store store' : List ℕ)
    (calls calls' : List Lending) → SameRun (listed past rows others store calls) (listed past' rows' others' store' calls')
unfolding tabulate sizes_of ground_of dims_of offset_of offsets_of part_of capacities_of order_of trimmed
same_run past past' rows rows' others others' store store' calls calls' = record { chain = refl; stream = refl }

-- They start alike where counters and store are the same, and a counter for each filter is enough.
pub same_start : (past past' rows rows' store : List ℕ) (calls calls' : List Lending)
    → SameStart (listed past rows [] store calls) (listed past' rows' [] store calls')
unfolding trimmed
same_start past past' rows rows' store calls calls' = record { start = refl; long = omega arith }
