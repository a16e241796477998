use mathlib.Core.Bool.{false}
use mathlib.Core.Path.{◌≡◌, sym, ◌∙◌}
use Rattle.model.specs.Values.{rows_of}
use Rattle.model.specs.Judging.{bad_rows, bad_count}
use Rattle.rows.proofs.SurveyLaws.{survey_rows, survey_count, repeats_is, survey_repeats}
use Rattle.rows.proofs.survey.Goals as goal
use Rattle.rows.proofs.survey.Goals.{Else-bad_count, Else-bad_rows}

pub returns-then-bad_rows : goal.returns-then-bad_rows
returns-then-bad_rows c = survey_rows c.args.count c.args.rows.now c.args.window c.args.bounds (sym c.bad_rows.ensures ∙ c.if-bad_rows.true)

-- Past the tests neither 16 nor 4 holds.
good-rows : (e : Else-bad_rows) → let a = e.args in bad_rows (rows_of a.count a.rows.now) ≡ false
good-rows e = sym e.bad_rows.ensures ∙ e.if-bad_rows.false

good-count : (e : Else-bad_count) → bad_count e.args.window.count ≡ false
good-count e = sym e.bad_count.ensures ∙ e.if-bad_count.false

pub returns-then-bad_count : goal.returns-then-bad_count
returns-then-bad_count c = survey_count c.args.count c.args.rows.now c.args.window c.args.bounds (good-rows (goal.at.returns-then-bad_count c).Else-bad_rows) (sym c.bad_count.ensures ∙ c.if-bad_count.true)

pub returns-then-repeats : goal.returns-then-repeats
returns-then-repeats c =
    survey_repeats c.args.count c.args.rows.now c.args.window c.args.bounds (good-rows (goal.at.returns-then-repeats c).Else-bad_rows) (good-count (goal.at.returns-then-repeats c).Else-bad_count) (sym (repeats_is c.args.count c.args.rows.now c.args.window c.args.bounds (good-rows (goal.at.returns-then-repeats c).Else-bad_rows) (good-count (goal.at.returns-then-repeats c).Else-bad_count)) ∙ sym c.repeats.ensures ∙ c.if-repeats.true)

pub survey_in-requires : goal.survey_in-requires
survey_in-requires c =
    (good-rows (goal.at.survey_in-requires c).Else-bad_rows, good-count (goal.at.survey_in-requires c).Else-bad_count, sym (repeats_is c.args.count c.args.rows.now c.args.window c.args.bounds (good-rows (goal.at.survey_in-requires c).Else-bad_rows) (good-count (goal.at.survey_in-requires c).Else-bad_count)) ∙ sym c.repeats.ensures ∙ c.if-repeats.false)
