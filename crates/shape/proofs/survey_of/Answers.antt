use mathlib.Core.Bool.{false}
use mathlib.Core.Path.{◌≡◌, sym, ◌∙◌}
use Rattle.model.specs.Judging.{bad_grid, bad_count}
use Rattle.model.specs.Values.{sizes_of}
use Rattle.geometry.proofs.GridLaws.{few_references}
use Rattle.shape.specs.Shapes.{Whole}
use Rattle.shape.proofs.SurveyLaws.{fallen_differ, survey_grid, survey_count, survey_repeats, survey_iterations, known, surveyed}
use Rattle.shape.proofs.survey_of.Goals as goal
use Rattle.shape.proofs.survey_of.Goals.{After-centre-centre, Else-bad_count}

pub returns-then-bad_grid : goal.returns-then-bad_grid
returns-then-bad_grid c =
    survey_grid c.args.grid c.args.window c.args.bounds (sym c.bad_grid.ensures ∙ c.if-bad_grid.true)

pub returns-then-bad_count : goal.returns-then-bad_count
returns-then-bad_count c =
    survey_count c.args.grid c.args.window c.args.bounds (sym c.bad_grid.ensures ∙ c.if-bad_grid.false) (sym c.bad_count.ensures ∙ c.if-bad_count.true)

-- Past both tests neither 3 nor 4 holds.
good-grid : (e : Else-bad_count) → bad_grid e.args.grid.dims (sizes_of e.args.grid) ≡ false
good-grid e = sym e.bad_grid.ensures ∙ e.if-bad_grid.false

good-count : (e : Else-bad_count) → bad_count e.args.window.count ≡ false
good-count e = sym e.bad_count.ensures ∙ e.if-bad_count.false

pub shape_in-shape-requires : goal.shape_in-shape-requires
shape_in-shape-requires c = (good-grid (goal.at.shape_in-shape-requires c).Else-bad_count, good-count (goal.at.shape_in-shape-requires c).Else-bad_count)

pub repeats_at-requires : goal.repeats_at-requires
repeats_at-requires c = (
  few_references c.args.window (good-count (goal.at.repeats_at-requires c).Else-bad_count),
  fallen_differ c.args.grid c.args.window (good-grid (goal.at.repeats_at-requires c).Else-bad_count) (good-count (goal.at.repeats_at-requires c).Else-bad_count) c.shape_in-shape.result c.shape_in-shape.ensures,
)

pub returns-then-repeats_at : goal.returns-then-repeats_at
returns-then-repeats_at c =
    survey_repeats c.args.grid c.args.window c.args.bounds (good-grid (goal.at.returns-then-repeats_at c).Else-bad_count) (good-count (goal.at.returns-then-repeats_at c).Else-bad_count) (sym c.repeats_at.ensures ∙ c.if-repeats_at.true)

pub returns-then-shape-eq0 : goal.returns-then-shape-eq0
returns-then-shape-eq0 c =
    survey_iterations c.args.grid c.args.window c.args.bounds (good-grid (goal.at.returns-then-shape-eq0 c).Else-bad_count) (good-count (goal.at.returns-then-shape-eq0 c).Else-bad_count) c.shape_in-shape.result c.shape_in-shape.ensures (sym c.repeats_at.ensures ∙ c.if-repeats_at.false)
    c.if-shape-eq0.true

-- Past the test of 6 all of 3 to 6 let pass.
all_pass : (c : After-centre-centre) → Whole c.args.grid c.args.window c.centre-centre.result c.shape_in-shape.result
all_pass c =
    let a = c.args in
    known a.grid a.window a.bounds (sym c.bad_grid.ensures ∙ c.if-bad_grid.false) (sym c.bad_count.ensures ∙ c.if-bad_count.false) c.shape_in-shape.result c.shape_in-shape.ensures
    (sym c.repeats_at.ensures ∙ c.if-repeats_at.false) _ c.if-shape-eq0.false c.centre-centre.ensures

pub survey_box-requires : goal.survey_box-requires
survey_box-requires c = (c.if-bounds.true, all_pass (goal.at.survey_box-requires c).After-centre-centre)

pub returns : goal.returns
returns c = let a = c.args in surveyed a.grid a.window a.bounds _ _ (all_pass (goal.at.returns c).After-centre-centre) c.if-bounds.false
