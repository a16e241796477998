use mathlib.Core.Path.{sym, ◌∙◌}
use Rattle.std.proofs.lemmas.Result.{err_from_is_err_and}
use Rattle.model.specs.Values.{capacities_of}
use Rattle.rows.specs.Surveys.{row_survey_of}
use Rattle.judging.specs.Checks.{examined_rows}
use Rattle.judging.proofs.JudgeLaws.{behind_refused, behind_is, rows_count, rows_centre}
use Rattle.judging.proofs.examine_rows.Goals as goal

pub judge_rest-verdict-requires : goal.judge_rest-verdict-requires
judge_rest-verdict-requires c = let a = c.args.c in rows_count a.grid.rows c.args.rows.now a.window a.bounds c.in_ok-survey.survey (sym c.survey.ensures ∙ c.in_ok-survey.was)

pub returns-in_err-survey : goal.returns-in_err-survey
unfolding examined_rows
returns-in_err-survey c =
    let a = c.args.c in
    let p = err_from_is_err_and c.from_residual.result c.from_residual.ensures.1 in
    rw (p.1, p.2) (behind_refused (row_survey_of a.grid.rows c.args.rows.now a.window a.bounds) 2 a _ (sym c.survey.ensures ∙ c.in_err-survey.was))

pub returns : goal.returns
unfolding examined_rows capacities_of
returns c =
    let a = c.args.c in
    let s = sym c.survey.ensures ∙ c.in_ok-survey.was in
    rw c.judge_rest-verdict.ensures (behind_is (row_survey_of a.grid.rows c.args.rows.now a.window a.bounds) 2 a c.in_ok-survey.survey s _ (rows_centre a.grid.rows c.args.rows.now a.window a.bounds _ s))
