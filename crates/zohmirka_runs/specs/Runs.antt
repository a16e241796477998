-- What a run call on a chain and the rows lent beside it leaves.
use Rattle.std.specs.Prelude.{ℕ, List, Ok, Err}
use Rattle.model_run.specs.Running.{run_of}
use Rattle.model.specs.Answers.{Answer}
use Rattle.model.specs.declared.Chain.{Chain}
use Rattle.model.specs.declared.State.{State}
use Rattle.zohmirka_words.specs.Words.{state_in, state_into}
use Rattle.zohmirka_reports.specs.declared.Report.{Report}
use Rattle.zohmirka_reports.specs.Reports.{report_of}

-- Its report, and the state, the store and the output that it was lent.
pub record Runs : Type 0 where
  pub report : Report
  pub state : List ℕ
  pub store : List ℕ
  pub out : List ℕ

unfoldable pub state_left : Answer → State → List ℕ → List ℕ
state_left (Ok o) s ws = state_into s ws
state_left (Err x) s ws = ws

module _ (state store cells out : List ℕ) (allowance : ℕ) where
  -- A call on the chain c, whose rows have these numbers.
  unfoldable pub run_value : Chain → (rows : List ℕ) → Runs
  run_value c rows =
      let ran = run_of c rows (state_in state) store cells out allowance in
      record {
        report = report_of ran.answer;
        state = state_left ran.answer ran.state state;
        store = ran.store;
        out = ran.output;
      }
