-- A stretch of a layout's iterations is a layout of its own.
use Rattle.std.specs.Prelude.{ℕ, ◌+◌, ◌-◌}
use Rattle.model_run.specs.Clock.{Layout}
use Rattle.model_run.specs.Running.{Standing, Ending, Done, Spent, Starved, Stalled, Full, Ended}
use Rattle.loop_laws.specs.Standings.{counting}

-- The iterations from number `from` on, up to below `until`.
abbrev pub stretch : (from until : ℕ) → Layout → Layout
stretch from until L = record {
  wants = λ j k. L.wants (from + j) k;
  capacity = L.capacity;
  filters = L.filters;
  cells = L.cells;
  iterations = until - from;
}

-- Where the stretch's call stands, as the layout's call has it: firings are counted from iteration 0 on.
abbrev pub in_whole : (from : ℕ) → Standing → Standing
in_whole from s = record {
  counters = counting (from + s.counters.fired) s.counters.passed;
  store = s.store;
  output = s.output;
  done = s.done;
}

-- What the layout's call comes to from where the stretch's call ended: `rest` where the stretch is done.
abbrev pub resumed : Ending → (rest ended : Ended) → Ended
resumed Done rest ended = rest
resumed Spent rest ended = ended
resumed Starved rest ended = ended
resumed Stalled rest ended = ended
resumed Full rest ended = ended
