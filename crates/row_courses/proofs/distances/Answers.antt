use mathlib.Core.Path.{sym, ◌∙◌}
use native.Mathlib.Omega.{arith}
use Rattle.model.specs.Values.{on_rows}
use Rattle.model.specs.Iterations.{distance_of}
use Rattle.geometry.proofs.FillLaws.{filled_none}
use Rattle.rows.specs.Surveys.{Surveyed}
use Rattle.rows.proofs.SurveyLaws.{survey_answer}
use Rattle.row_courses.proofs.DistanceLaws.{filled_same}
use Rattle.row_courses.proofs.RunLaws.{all_near, cells_table, distances_count, distances_are, looked_is, none_refused}
use Rattle.row_courses.proofs.distances.Goals as goal
use Rattle.row_courses.proofs.distances.Goals.{After-cells_above}

accepted : (m : After-cells_above) → let a = m.args in Surveyed a.count a.rows.now a.window a.bounds m.in-Ok.survey.course
accepted m =
    let a = m.args in
    (survey_answer a.count a.rows.now a.window a.bounds m.in-Ok.survey (sym m.survey.ensures ∙ m.in-Ok.is)).surveyed

pub distances_in-requires : goal.distances_in-requires
distances_in-requires c =
    let a = c.args in
    let s = accepted (goal.at.distances_in-requires c).After-cells_above in
    all_near a.count a.rows.now a.window a.bounds _ s _ (cells_table a.count a.rows.now a.window a.bounds _ s _ c.cells_above.ensures)

pub returns-in_default : goal.returns-in_default
returns-in_default c =
    let a = c.args in
    filled_same 31 (λ k. 0) (distance_of (on_rows a.count a.rows.now a.window a.bounds)) 0 _ _
    (none_refused a.count a.rows.now a.window a.bounds _ (sym c.survey.ensures ∙ c.in_default.is)) (λ i h. absurd (omega arith)) (filled_none 31 0 (λ k. 0))

pub returns : goal.returns
returns c =
    let a = c.args in
    let s = accepted (goal.at.returns c).After-cells_above in
    filled_same 31 _ (distance_of (on_rows a.count a.rows.now a.window a.bounds)) _ _ _ (distances_count a.count a.rows.now a.window a.bounds _ s)
    (λ k h. distances_are a.count a.rows.now a.window a.bounds _ s _ (cells_table a.count a.rows.now a.window a.bounds _ s _ c.cells_above.ensures) k (omega (arith, looked_is a.count a.rows.now a.window a.bounds _ s))) c.distances_in.ensures
