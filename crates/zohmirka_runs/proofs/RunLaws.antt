-- Each way through a run call, by what the functions that it calls answered.
use Prim.Native.Nat.{ℕ}
use mathlib.Core.List.{List}
use mathlib.Core.Path.{◌≡◌}
use Rattle.model_run.specs.Running.{run_of}
use Rattle.std.specs.Prelude.{Ok, Err}
use Rattle.model.specs.declared.Chain.{Chain}
use Rattle.model.specs.declared.Outcome.{Outcome}
use Rattle.model.specs.declared.Ran.{Ran}
use Rattle.model.specs.declared.Refusal.{Refusal}
use Rattle.model.specs.declared.State.{State}
use Rattle.runner.specs.Runs.{ran_of}
use Rattle.zohmirka_words.specs.Words.{state_in, state_into}
use Rattle.zohmirka_reports.specs.declared.Report.{Report}
use Rattle.zohmirka_reports.specs.Reports.{report_of}
use Rattle.zohmirka_runs.specs.Runs.{state_left, run_value}

module _ (state store cells out : List ℕ) (allowance : ℕ) where
  module _ (c : Chain) (rows : List ℕ) (s : State) (ran : Ran) (store' out' : List ℕ) (e : s ≡ state_in state) (d : ran_of ran store' out' ≡ run_of c rows s store cells out allowance) where
    pub run_refused : (x : Refusal) (r : Report) → ran.answer ≡ Err x → r ≡ report_of (Err x)
        → record { report = r; state = state; store = store'; out = out' } ≡ run_value state store cells out allowance c rows
    unfolding run_value state_left
    run_refused x r q f = rw (← e, ← d, q, f)

    pub run_ended : (o : Outcome) (r : Report) (state' : List ℕ) → ran.answer ≡ Ok o → state' ≡ state_into ran.state state → r ≡ report_of (Ok o)
        → record { report = r; state = state'; store = store'; out = out' } ≡ run_value state store cells out allowance c rows
    unfolding run_value state_left
    run_ended o r state' q g f = rw (← e, ← d, q, g, f)
