use Prim.Native.Nat.{ℕ}
use mathlib.Core.Bool.{true}
use mathlib.Core.List.{List}
use mathlib.Core.Path.{◌≡◌, sym, ◌∙◌, ap}
use Rattle.model.specs.Answers.{first_of, verdict_of}
use Rattle.model.specs.Values.{Trimmed}
use Rattle.std.proofs.lemmas.Result.{err_from_is_err_and}
use Rattle.model.specs.Judging.{window_checks, judge_window}
use Rattle.model.specs.declared.Bounds.{Bounds}
use Rattle.model.specs.declared.Grid.{Grid}
use Rattle.model.specs.declared.Window.{Window}
use Rattle.grid_laws.proofs.ChainLaws.{on_skewed}
use Rattle.grid_laws.proofs.StepLaws.{steps_refused}
use Rattle.rows.specs.Surveys.{row_survey_of}
use Rattle.rows.proofs.SurveyLaws.{survey_verdict}
use Rattle.plan_steps.proofs.on_rows.Goals as goal

-- What the survey found is the first of 16, 4 to 6 and 15.
found : (g : Grid) → g.skewed ≡ true → (rows : List ℕ) (w : Window) (x : Bounds) → judge_window g rows w x ≡ verdict_of (row_survey_of g.rows rows w x)
found g skewed rows w x = ap (λ (t : Trimmed). first_of (window_checks t)) (on_skewed g skewed rows w x) ∙ sym (survey_verdict g.rows rows w x)

pub taken_on_rows-requires : goal.taken_on_rows-requires
taken_on_rows-requires c =
    let a = c.args in
    (c.requires, found a.grid c.requires a.rows.now a.window a.bounds ∙ ap verdict_of (sym c.survey.ensures ∙ c.in_ok-survey.was))

pub returns-in_err-survey : goal.returns-in_err-survey
returns-in_err-survey c =
    let a = c.args in
    let p = err_from_is_err_and c.from_residual.result c.from_residual.ensures.1 in
    rw (p.1, p.2) (sym (steps_refused a.grid a.rows.now a.window a.bounds _ (found a.grid c.requires a.rows.now a.window a.bounds ∙ ap verdict_of (sym c.survey.ensures ∙ c.in_err-survey.was))))
