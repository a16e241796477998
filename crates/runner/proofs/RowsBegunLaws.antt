-- What the clocks of a call on rows are handed, from what was prepared.
use Prim.Native.Nat.{ℕ}
use mathlib.Core.List.{List}
use mathlib.Core.Path.{refl, ap}
use Rattle.model.specs.Values.{offsets_of, part_of, trimmed}
use Rattle.model_run.specs.Running.{filters_of}
use Rattle.model.specs.declared.Chain.{Chain}
use Rattle.model.specs.declared.State.{State}
use Rattle.grid_laws.proofs.ChainLaws.{dims_skewed, ground_skewed}
use Rattle.run_laws.proofs.Accepts.{trimmed_proper}
use Rattle.kernel_terms.proofs.TableLaws.{filters_are}
use Rattle.rows.specs.declared.RowSurvey.{RowSurvey}
use Rattle.run_prepare.specs.RowsReady.{RowsBegun}
use Rattle.runner.specs.ByRows.{RowCall}

pub row_call : (c : Chain) (rows : List ℕ) (state : State) (s : RowSurvey) (above iterations caps bases tops passed store : List ℕ) → RowsBegun c rows state s above iterations caps bases tops passed store
    → RowCall (trimmed c rows) c.kernel c.order c.window.count c.grid.rows s.cells s.centre s.course rows above iterations caps bases tops state.fired.0 passed store
unfolding trimmed filters_of
row_call c rows state s above iterations caps bases tops passed store B = record {
  tables = record {
    window = c.window;
    bounds = c.bounds;
    surveyed = B.tables.surveyed;
    ground_is = ground_skewed c.grid B.tables.skewed rows;
    offsets_are = ap (λ (d : ℕ). offsets_of d c.window) (dims_skewed c.grid B.tables.skewed);
    part_is = ap (λ (d : ℕ). part_of d c.bounds) (dims_skewed c.grid B.tables.skewed);
    proper = trimmed_proper c rows;
    accepted = B.tables.accepted;
    count_is = refl;
    cells_are = B.tables.cells_are;
    kernel_is = refl;
    centre_is = B.tables.centre_is;
    filters_are = filters_are c.window.count c.order;
    above_are = B.tables.cells_above_lem;
    caps_are = B.tables.caps_are;
    bases_are = B.tables.bases_are;
    tops_are = B.tables.tops_are;
  };
  iterations_are = B.tables.iterations_above_lem;
  counted = record { there = B.there; room = B.room; holds = B.holds };
}
