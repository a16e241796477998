-- The clocks of a call on a chain whose tables are prepared: what is left.
use Rattle.std.specs.Prelude.{ℕ, ◌≤◌, ◌<◌, List, ◌≡◌, length, get_or, take, drop}
use Rattle.model.specs.Values.{Trimmed}
use Rattle.model_run.specs.Running.{Ended, outcome_of, layout, written_by, width_of}
use Rattle.run_glide.specs.Glides.{calls}
use Rattle.runner.specs.declared.Stopped.{Stopped}

-- The call of a chain, from its beginning.
abbrev pub call_of : (t : Trimmed) (n fired : ℕ) (passed store lent out : List ℕ) (allowance : ℕ) → Ended
call_of t = calls (layout t) (written_by t) (width_of t)

-- All that a call leaves is as the definition's call `e` has it. The first n counters are small, and those past n as they came.
pub record Ends (r : Stopped) (e : Ended) (n : ℕ) (passed passed' store' out' : List ℕ) : Type 0 where
  pub outcome : r.outcome ≡ outcome_of e.ending e.standing.done
  pub fired : r.fired.0 ≡ e.standing.counters.fired
  pub counters : take n passed' ≡ e.standing.counters.passed
  pub store : store' ≡ e.standing.store
  pub output : out' ≡ e.standing.output
  pub there : length passed' ≡ 32
  pub rest : drop n passed' ≡ drop n passed
  pub small : (k : ℕ) → k < n → get_or passed' k 0 ≤ 1048576
