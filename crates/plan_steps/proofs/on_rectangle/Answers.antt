use mathlib.Core.List.{[]}
use mathlib.Core.Bool.{false}
use mathlib.Core.Path.{◌≡◌, sym, ◌∙◌, ap}
use Rattle.std.proofs.lemmas.Result.{err_from_is_err_and}
use Rattle.model.specs.Judging.{window_checks, judge_window}
use Rattle.model.specs.Answers.{first_of, verdict_of}
use Rattle.model.specs.Values.{Trimmed}
use Rattle.model.specs.declared.Bounds.{Bounds}
use Rattle.model.specs.declared.Grid.{Grid}
use Rattle.model.specs.declared.Window.{Window}
use Rattle.shape.specs.Shapes.{survey_of}
use Rattle.shape.proofs.Answers.{survey_verdict}
use Rattle.grid_laws.proofs.ChainLaws.{on_flat}
use Rattle.grid_laws.proofs.StepLaws.{steps_refused}
use Rattle.plan_steps.proofs.DistanceLaws.{first_positions}
use Rattle.plan_steps.proofs.StepLaws.{few}
use Rattle.plan_steps.proofs.on_rectangle.Goals as goal

-- What the survey found is the first of 3 to 6 and 15.
found : (g : Grid) → g.skewed ≡ false → (w : Window) (x : Bounds) → judge_window g [] w x ≡ verdict_of (survey_of g w x)
found g flat w x = ap (λ (t : Trimmed). first_of (window_checks t)) (on_flat g flat [] w x) ∙ sym (survey_verdict g w x)

pub taken-requires : goal.taken-requires
taken-requires c =
    let a = c.args in
    let s = sym c.survey_of.ensures ∙ c.in_ok-survey.was in
    let ok = found a.grid c.requires a.window a.bounds ∙ ap verdict_of s in
    (c.requires, ok, first_positions a.grid c.requires a.window a.bounds (few a.grid [] a.window a.bounds ok) c.in_ok-survey.survey s)

pub returns-in_err-survey : goal.returns-in_err-survey
returns-in_err-survey c =
    let a = c.args in
    let p = err_from_is_err_and c.from_residual.result c.from_residual.ensures.1 in
    rw (p.1, p.2) (sym (steps_refused a.grid [] a.window a.bounds _ (found a.grid c.requires a.window a.bounds ∙ ap verdict_of (sym c.survey_of.ensures ∙ c.in_err-survey.was))))
