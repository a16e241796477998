-- What a run call on rows finds before its clocks: the verdict on it, and where it is not refused the tables of the call.
use Rattle.std.specs.Prelude.{ℕ, suc, ◌+◌, ◌-◌, ◌≤◌, ◌<◌, true, List, ◌≡◌, length, get_or, take, Result, Ok}
use Rattle.model.specs.Lists.{sum}
use Rattle.model.specs.Answers.{verdict_of}
use Rattle.model.specs.Grounds.{cells_above}
use Rattle.model.specs.Windows.{centre_of}
use Rattle.model.specs.Values.{Trimmed, rows_of, trimmed, set_grid}
use Rattle.model.specs.Iterations.{cells_of, iterations_of, reads_of}
use Rattle.model.specs.Judging.{most_cells}
use Rattle.model_run.specs.Store.{first_place}
use Rattle.model_run.specs.Running.{layout, counters_of, judge_run}
use Rattle.model.specs.declared.Chain.{Chain}
use Rattle.model.specs.declared.Refusal.{Refusal}
use Rattle.model.specs.declared.State.{State}
use Rattle.flow.specs.Machine.{Invariant}
use Rattle.run_laws.specs.Accepted.{Accepted}
use Rattle.loop_laws.specs.Standings.{counting}
use Rattle.geometry.specs.Parts as parts
use Rattle.rows.specs.Courses.{looked, row_length}
use Rattle.rows.specs.Surveys.{Surveyed}
use Rattle.rows.specs.declared.RowCourse.{RowCourse}
use Rattle.rows.specs.declared.RowSurvey.{RowSurvey}
use Rattle.row_courses.specs.CourseTables.{lengths_above, read_at, LiesIn}
use Rattle.run_prepare.specs.Prepared.{number_at}

-- A chain, its grid taken for rows.
abbrev pub in_rows : Chain → Chain
in_rows c = set_grid (record { skewed = true; rows = c.grid.rows; dims = c.grid.dims; sizes = c.grid.sizes }) c

-- Where n references read, row by row, by tables of the cells and of the iterations above each row.
pub record RowReads (t : Trimmed) (count : ℕ) (rows : List ℕ) (course : RowCourse) (n : ℕ) (above iterations : List ℕ) : Type
    0 where
  pub few : n ≤ 32
  pub looked_is : looked course ≡ n
  pub few_rows : course.height ≤ 512
  pub none_above : number_at iterations 0 ≡ 0
  pub all_above : number_at iterations course.height ≡ iterations_of t
  pub reads_are : (j v k : ℕ) → LiesIn iterations course.height j v → k < n
      → read_at (rows_of count rows) above course v k + (j - number_at iterations v) ≡ reads_of t j k
  pub near : (j k : ℕ) → j < iterations_of t → k < n → reads_of t j k ≤ most_cells

-- What is found of an accepted chain on rows.
pub record RowsFound (c : Chain) (rows : List ℕ) (s : RowSurvey) : Type 0 where
  pub surveyed : Surveyed c.grid.rows rows c.window c.bounds s.course
  pub iterations_are : s.iterations ≡ iterations_of (trimmed c rows)
  pub cells_are : s.cells ≡ cells_of (trimmed c rows)
  pub centre_is : s.centre ≡ centre_of (trimmed c rows).offsets

-- The tables of an accepted chain on rows: how many cells lie above each row, and how many iterations above each row of the
-- course; FIFO k's capacity, its first place and the place past its last.
pub record RowTables (c : Chain) (rows : List ℕ) (s : RowSurvey) (above iterations caps bases tops : List ℕ) : Type 0 where
  pub accepted : Accepted (trimmed c rows)
  pub skewed : c.grid.skewed ≡ true
  pub surveyed : Surveyed c.grid.rows rows c.window c.bounds s.course
  pub cells_above_lem : parts.Filled 513 0 (cells_above (rows_of c.grid.rows rows)) (c.grid.rows + 1) above
  pub iterations_above_lem : parts.Filled 513 0 (lengths_above (row_length (rows_of c.grid.rows rows) s.course))
      (s.course.height + 1) iterations
  pub caps_are : (k : ℕ) → suc k < c.window.count → get_or caps k 0 ≡ get_or (trimmed c rows).capacities k 0
  pub bases_are : (k : ℕ) → suc k < c.window.count → get_or bases k 0
      ≡ first_place (λ i. get_or (trimmed c rows).capacities i 0) k
  pub tops_are : (k : ℕ) → suc k < c.window.count → get_or tops k 0 ≡ get_or bases k 0 + get_or caps k 0
  pub iterations_are : s.iterations ≡ iterations_of (trimmed c rows)
  pub cells_are : s.cells ≡ cells_of (trimmed c rows)
  pub centre_is : s.centre ≡ centre_of (trimmed c rows).offsets

-- Where a call is not refused: its tables, its counters, and a store that is not refused.
pub record RowsBegun (c : Chain) (rows : List ℕ) (state : State) (s : RowSurvey)
    (above iterations caps bases tops passed store : List ℕ) : Type 0 where
  pub tables : RowTables c rows s above iterations caps bases tops
  pub there : length passed ≡ 32
  pub room : sum (trimmed c rows).capacities ≤ length store
  pub holds : Invariant (layout (trimmed c rows)) (counting state.fired.0 (take c.window.count passed))
  pub counters : take c.window.count passed ≡ (counters_of c.window.count state).passed

-- The verdict is the call's, whatever it is handed. After a refusal nothing is said of the tables.
pub record RowsReadied (c : Chain) (rows : List ℕ) (state : State) (r : Result RowSurvey Refusal)
    (above iterations caps bases tops passed store : List ℕ) : Type 0 where
  pub verdict_is : verdict_of r ≡ judge_run (trimmed c rows) state store
  pub begun : (s : RowSurvey) → r ≡ Ok s → RowsBegun c rows state s above iterations caps bases tops passed store
