-- The clocks of a stretch: what they are handed, and what they leave.
use Rattle.std.specs.Prelude.{ℕ, ◌+◌, ◌*◌, ◌≤◌, ◌<◌, List, ◌≡◌, length, get_or, take, drop}
use Rattle.model.specs.Lists.{up_to}
use Rattle.model_run.specs.Kernels.{written}
use Rattle.model_run.specs.Clock.{Layout}
use Rattle.model_run.specs.Running.{Ending, Done, Spent, Starved, Stalled, Full}
use Rattle.model.specs.declared.Kernel.{Kernel}
use Rattle.loop_laws.specs.Standings.{stand, ended_at}
use Rattle.loop_laws.specs.LoopTables.{walked, Rows}
use Rattle.run_fill.specs.Fills.{Handed}
use Rattle.run_fill.specs.declared.Stop.{Stop}
use Rattle.run_fill.specs.declared.Stop.TheVariants as stop
use Rattle.run_glide.specs.Glides.{Walks, calls}
use Rattle.run_glide.specs.declared.Way.{Way}
use Rattle.run_glide.specs.declared.Way.TheVariants as way
use Rattle.runner.specs.declared.End.{End}
use Rattle.runner.specs.declared.End.TheVariants as end
use Rattle.runner.specs.declared.Stretched.{Stretched}

-- Tables, counters and rows of the stretch's layout L, and what a firing writes.
pub record Stretching (L : Layout) (write : List ℕ → List ℕ) (kernel : Kernel) (ts : List ℕ)
    (n row iterations cells centre fired dims : ℕ) (at wants caps bases tops spans strides passed store : List ℕ)
    : Type 0 where
  pub handed : Handed L (walked spans strides dims 0) n cells iterations fired at wants caps bases tops passed store
  pub most : iterations ≤ 1048576
  pub rows : Rows (walked spans strides dims 0) row iterations
  pub walks : Walks dims spans strides
  pub writes_are : (ws : List ℕ) → write ws ≡ written kernel centre ts (up_to n) ws

-- There is such a layout.
pub record Stretchable (kernel : Kernel) (ts : List ℕ) (n row iterations cells centre fired dims : ℕ)
    (at wants caps bases tops spans strides passed store : List ℕ) : Type 0 where
  pub layout : Layout
  pub write : List ℕ → List ℕ
  pub stretching : Stretching layout write kernel ts n row iterations cells centre fired dims at wants caps bases tops spans
      strides passed store

abbrev pub ending_of : End → Ending
ending_of end.Done = Done
ending_of end.Spent = Spent
ending_of end.Starved = Starved
ending_of end.Stalled = Stalled
ending_of end.Full = Full

-- Why the clocks before the filters were aligned stopped, where they were not aligned.
abbrev pub stop_end : Stop → End
stop_end stop.Aligned = end.Done
stop_end stop.Spent = end.Spent
stop_end stop.Starved = end.Starved
stop_end stop.Stalled = end.Stalled

abbrev pub way_end : Way → End
way_end way.Done = end.Done
way_end way.Spent = end.Spent
way_end way.Starved = end.Starved
way_end way.Full = end.Full

-- All that the clocks leave, where they are L's. The first n counters are small, and those past n as they came.
pub record StretchedTo (r : Stretched) (L : Layout) (write : List ℕ → List ℕ) (size n iterations fired : ℕ)
    (passed passed' store store' out out' lent : List ℕ) (allowance : ℕ) : Type 0 where
  pub ends : ended_at (ending_of r.end)
      (stand (fired + r.firings) (take n passed') store' out' r.taken r.clocks r.firings)
      ≡ calls L write size n fired passed store lent out allowance
  pub there : length passed' ≡ 32
  pub rest : drop n passed' ≡ drop n passed
  pub small : (k : ℕ) → k < n → get_or passed' k 0 ≤ 1048576
  pub had : r.taken ≤ length lent
  pub allowed : r.clocks ≤ allowance
  pub taken_fewer : r.taken ≤ r.clocks
  pub firings_fewer : r.firings ≤ r.clocks
  pub most : fired + r.firings ≤ iterations
  pub room : r.firings * size ≤ length out
