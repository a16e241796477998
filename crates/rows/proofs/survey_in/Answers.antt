use Rattle.geometry.proofs.GridLaws.{few_references}
use Rattle.rows.specs.Surveys.{Known}
use Rattle.rows.proofs.SurveyLaws.{few_count, survey_iterations, known, surveyed}
use Rattle.rows.proofs.survey_in.Goals as goal
use Rattle.rows.proofs.survey_in.Goals.{After-centre-centre, After-iterations_in-iterations}

pub iterations_in-iterations-requires : goal.iterations_in-iterations-requires
iterations_in-iterations-requires c = (few_count c.args.count c.args.rows.now c.args.window c.args.bounds c.requires.0 c.requires.1, few_references c.args.window c.requires.1)

pub returns-then-iterations-eq0 : goal.returns-then-iterations-eq0
returns-then-iterations-eq0 c =
    let s = (goal.at.returns-then-iterations-eq0 c).After-iterations_in-iterations in
    let a = s.args in
    survey_iterations a.count a.rows.now a.window a.bounds s.requires.0 s.requires.1 s.requires.2 c.whole_course-course.result c.whole_course-course.ensures c.iterations_in-iterations.result c.iterations_in-iterations.ensures c.if-iterations-eq0.true

pub cells_in-cells-requires : goal.cells_in-cells-requires
cells_in-cells-requires c = let s = (goal.at.cells_in-cells-requires c).After-iterations_in-iterations in let a = s.args in few_count a.count a.rows.now a.window a.bounds s.requires.0 s.requires.1

-- Past the test of 6 all of 16 and 4 to 6 let pass.
all_pass : (c : After-centre-centre) →
    let a = c.args in
    Known a.count a.rows.now a.window
    (record {
      centre = c.centre-centre.result;
      cells = c.cells_in-cells.result;
      iterations = c.iterations_in-iterations.result;
      course = c.whole_course-course.result;
    })
all_pass c =
    let s = c in
    let a = s.args in
    known a.count a.rows.now a.window a.bounds s.requires.0 s.requires.1 s.requires.2 c.whole_course-course.result c.whole_course-course.ensures c.iterations_in-iterations.result c.iterations_in-iterations.ensures
    c.if-iterations-eq0.false _ _ c.centre-centre.ensures c.cells_in-cells.ensures

pub survey_box-requires : goal.survey_box-requires
survey_box-requires c = (c.if-bounds.true, all_pass (goal.at.survey_box-requires c).After-centre-centre)

pub returns : goal.returns
returns c = let a = (goal.at.returns c).After-iterations_in-iterations.args in surveyed a.count a.rows.now a.window a.bounds _ (all_pass (goal.at.returns c).After-centre-centre) c.if-bounds.false
