-- What a run call finds before its clocks: the verdict on it, and where it is not refused the tables of the call.
use Rattle.std.specs.Prelude.{ℕ, suc, ◌+◌, ◌-◌, ◌≤◌, ◌<◌, false, List, [], ◌≡◌, length, get_or, take, drop, Result, Ok}
use Rattle.model.specs.Lists.{sum, product}
use Rattle.model.specs.Answers.{verdict_of}
use Rattle.model.specs.Geometry.{cell_count}
use Rattle.model.specs.Grounds.{ground_sizes}
use Rattle.model.specs.Grounds.Ground.{rectangle}
use Rattle.model.specs.Windows.{centre_of}
use Rattle.model.specs.Values.{Trimmed, trimmed, set_grid}
use Rattle.model.specs.Iterations.{cells_of, iterations_of, extents_of, reads_of}
use Rattle.model_run.specs.Store.{first_place}
use Rattle.model_run.specs.Running.{layout, counters_of, short_store, bad_state, judge_run}
use Rattle.model.specs.declared.Chain.{Chain}
use Rattle.model.specs.declared.Refusal.{Refusal}
use Rattle.model.specs.declared.State.{State}
use Rattle.flow.specs.Machine.{Invariant}
use Rattle.run_laws.specs.Accepted.{Accepted}
use Rattle.loop_laws.specs.Standings.{counting}
use Rattle.run_prepare.specs.Prepared.{number_at, Shaped, Capped}
use Rattle.run_prepare.specs.declared.Ready.{Ready}

-- The tables of an accepted chain, whose grid is a rectangle: reference k's cell in iteration 0, FIFO k's capacity, its first
-- place and the place past its last; for each dimension how many iterations and how many cells one index there is; how many
-- iterations a row has.
pub record Prepared (t : Trimmed) (row iterations cells centre : ℕ) (at caps bases tops spans strides : List ℕ) : Type 0 where
  pub accepted : Accepted t
  pub rectangular : t.the_ground ≡ rectangle (ground_sizes t.the_ground)
  pub at_there : length at ≡ 32
  pub at_are : (k : ℕ) → k < t.count → get_or at k 0 ≡ reads_of t 0 k
  pub caps_are : (k : ℕ) → suc k < t.count → get_or caps k 0 ≡ get_or t.capacities k 0
  pub bases_are : (k : ℕ) → suc k < t.count → get_or bases k 0 ≡ first_place (λ i. get_or t.capacities i 0) k
  pub tops_are : (k : ℕ) → suc k < t.count → get_or tops k 0 ≡ get_or bases k 0 + get_or caps k 0
  pub spans_are : (d : ℕ) → d < t.dims → get_or spans d 0 ≡ product (drop (suc d) (extents_of t))
  pub strides_are : (d : ℕ) → d < t.dims → get_or strides d 0 ≡ cell_count (drop (suc d) (ground_sizes t.the_ground))
  pub row_is : row ≡ get_or (extents_of t) (t.dims - 1) 0
  pub iterations_are : iterations ≡ iterations_of t
  pub cells_are : cells ≡ cells_of t
  pub centre_is : centre ≡ centre_of t.offsets

-- A state that is not refused, its counters and the cells that its filters want next in tables, and a store that is not refused.
pub record Begins (t : Trimmed) (fired : ℕ) (wants passed store : List ℕ) : Type 0 where
  pub wants_are : (k : ℕ) → k < t.count → get_or wants k 0 ≡ (layout t).wants fired k
  pub there : length passed ≡ 32
  pub room : sum t.capacities ≤ length store
  pub holds : Invariant (layout t) (counting fired (take t.count passed))

-- A chain, its grid taken for a rectangle.
abbrev pub flattened : Chain → Chain
flattened c = set_grid (record { skewed = false; rows = c.grid.rows; dims = c.grid.dims; sizes = c.grid.sizes }) c

-- A chain that no number from 3 to 9 and 14 to 16 turns back, its capacities in an array.
pub record Capable (c : Chain) (rows caps : List ℕ) : Type 0 where
  pub accepted : Accepted (trimmed c rows)
  pub capped : Capped (trimmed c rows) c.window.count caps
  pub small : (k : ℕ) → number_at caps k < 4294967296

-- Besides the places of its FIFOs, and a store that 10 does not turn back.
pub record Stored (c : Chain) (rows caps bases tops store : List ℕ) : Type 0 where
  pub capable : Capable c rows caps
  pub bases_are : (k : ℕ) → suc k < c.window.count
      → number_at bases k ≡ first_place (λ i. get_or (trimmed c rows).capacities i 0) k
  pub tops_are : (k : ℕ) → suc k < c.window.count → number_at tops k ≡ number_at bases k + number_at caps k
  pub long : short_store (trimmed c rows) store ≡ false

-- On a rectangle: and a state that 11 does not turn back, its counters and the cells that its filters want next in arrays.
pub record Taken (c : Chain) (s : State) (cells iterations : ℕ) (es ss at wants caps bases tops passed store : List ℕ) : Type
    0 where
  pub stored : Stored (flattened c) [] caps bases tops store
  pub shaped : Shaped (trimmed (flattened c) []) c.grid.dims c.window.count cells iterations es ss at
  pub at_there : length at ≡ 32
  pub wants_are : (k : ℕ) → k < c.window.count → number_at wants k ≡ (layout (trimmed (flattened c) [])).wants s.fired.0 k
  pub there : length passed ≡ 32
  pub counters : take c.window.count passed ≡ (counters_of c.window.count s).passed
  pub good : bad_state (layout (trimmed (flattened c) [])) (counters_of c.window.count s) ≡ false

-- Where a call is not refused: its tables, and its counters.
pub record Begun (c : Chain) (rows : List ℕ) (s : State) (r : Ready)
    (at wants caps bases tops spans strides passed store : List ℕ) : Type 0 where
  pub tables : Prepared (trimmed c rows) r.row r.iterations r.cells r.centre at caps bases tops spans strides
  pub begins : Begins (trimmed c rows) r.fired wants passed store
  pub fired_is : r.fired ≡ s.fired.0
  pub counters : take c.window.count passed ≡ (counters_of c.window.count s).passed

-- The verdict is the call's, whatever it is handed. After a refusal nothing is said of the tables.
pub record Readied (c : Chain) (rows : List ℕ) (s : State) (r : Result Ready Refusal)
    (at wants caps bases tops spans strides passed store : List ℕ) : Type 0 where
  pub verdict_is : verdict_of r ≡ judge_run (trimmed c rows) s store
  pub begun : (b : Ready) → r ≡ Ok b → Begun c rows s b at wants caps bases tops spans strides passed store
