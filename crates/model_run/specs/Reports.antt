-- What the runs of a list report.
use Rattle.std.specs.Prelude.{ℕ, List, [], ◌∷◌, ◌≡◌, Ok}
use Rattle.model.specs.Answers.{answer_counts}
use Rattle.model_run.specs.Running.{Run}
use Rattle.model.specs.declared.Counts.{Counts}
use Rattle.model.specs.declared.Outcome.{Outcome}

-- The run is not refused and its outcome is that one, as `Reports outcome.Done r`.
pub record Reports (outcome : Counts → Outcome) (r : Run) : Type 0 where
  pub counts : Counts
  pub answer : r.answer ≡ Ok (outcome counts)

-- Firings and clocks of one run; 0 for a refused one.
abbrev pub firings_of : Run → ℕ
firings_of r = (answer_counts r.answer).firings

abbrev pub clocks_of : Run → ℕ
clocks_of r = (answer_counts r.answer).clocks

-- Something holds of each run of a list.
abbrev pub Each : (Run → Type 0) → List Run → Type 0
Each P [] = Unit {0}
Each P (r ∷ rs) = P r × Each P rs
