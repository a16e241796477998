use mathlib.Core.Path.{sym, ◌∙◌}
use Rattle.std.proofs.lemmas.Result.{err_from_is_err_and}
use Rattle.model.specs.Values.{capacities_of}
use Rattle.shape.specs.Shapes.{survey_of}
use Rattle.judging.specs.Checks.{examined_of}
use Rattle.judging.proofs.JudgeLaws.{behind_refused, behind_is, survey_count, survey_centre}
use Rattle.judging.proofs.examine.Goals as goal

pub judge_rest-verdict-requires : goal.judge_rest-verdict-requires
judge_rest-verdict-requires c = let a = c.args.c in survey_count a.grid a.window a.bounds c.in_ok-survey.survey (sym c.survey_of.ensures ∙ c.in_ok-survey.was)

pub returns-in_err-survey : goal.returns-in_err-survey
unfolding examined_of
returns-in_err-survey c =
    let a = c.args.c in
    let p = err_from_is_err_and c.from_residual.result c.from_residual.ensures.1 in
    rw (p.1, p.2) (behind_refused (survey_of a.grid a.window a.bounds) a.grid.dims a _ (sym c.survey_of.ensures ∙ c.in_err-survey.was))

pub returns : goal.returns
unfolding examined_of capacities_of
returns c =
    let a = c.args.c in
    let s = sym c.survey_of.ensures ∙ c.in_ok-survey.was in
    rw c.judge_rest-verdict.ensures (behind_is (survey_of a.grid a.window a.bounds) a.grid.dims a c.in_ok-survey.survey s _ (survey_centre a.grid a.window a.bounds _ s))
