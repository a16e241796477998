-- Where a call stands, by its numbers and lists.
use Rattle.std.specs.Prelude.{ℕ, List}
use Rattle.model_run.specs.Clock.{Counters}
use Rattle.model_run.specs.Running.{Standing, Ending, Ended}

abbrev pub counting : (fired : ℕ) (passed : List ℕ) → Counters
counting fired passed = record { fired = fired; passed = passed }

abbrev pub stand : (fired : ℕ) (passed store output : List ℕ) (cells clocks firings : ℕ) → Standing
stand fired passed store output cells clocks firings = record {
  counters = counting fired passed;
  store = store;
  output = output;
  done = record { cells = cells; firings = firings; clocks = clocks };
}

abbrev pub ended_at : Ending → Standing → Ended
ended_at e s = record { ending = e; standing = s }
