use mathlib.Core.Path.{◌≡◌, ◌∙◌, ap₂}
use lib.IntN.{ℤ}
use Rattle.model.specs.Courses.{low_row, low_column}
use Rattle.model.specs.Values.{offsets_of}
use Rattle.geometry.proofs.EntryLaws.{entry_back}
use Rattle.geometry.proofs.GridLaws.{few_references}
use Rattle.rows.specs.Boxing.{placed_in}
use Rattle.rows.proofs.WindowLaws.{low_row_lem, low_column_lem}
use Rattle.rows.proofs.SurveyLaws.{box_refused, box_sizes, box_accepted}
use Rattle.rows.proofs.survey_box.Goals as goal
use Rattle.rows.proofs.survey_box.Goals.{After-placed_at-at}

-- Where the box was placed.
at-is : (p : After-placed_at-at) →
    p.placed_at-at.result ≡ placed_in p.args.count p.args.bounds.lowest p.args.bounds.highest (low_row (offsets_of 2 p.args.window)) (low_column (offsets_of 2 p.args.window))
at-is p =
    let a = p.args in
    let few = few_references a.window p.requires.1.count_pass in
    p.placed_at-at.ensures
    ∙ ap₂ (λ (x y : ℤ). placed_in a.count a.bounds.lowest a.bounds.highest x y)
    (entry_back p.low_in-low_row.result p.low_in-low_row.type_inv ∙ p.low_in-low_row.ensures ∙ low_row_lem a.window few)
    (entry_back p.low_in-low_column.result p.low_in-low_column.type_inv ∙ p.low_in-low_column.ensures ∙ low_column_lem a.window few)

pub fits-requires : goal.fits-requires
fits-requires c = few_references c.args.window c.requires.1.count_pass

pub returns-then-not-fits : goal.returns-then-not-fits
returns-then-not-fits c =
    let a = c.args in
    box_refused a.count a.rows.now a.window a.bounds a.known c.requires.1 c.requires.0 c.placed_at-at.result (at-is (goal.at.returns-then-not-fits c).After-placed_at-at) (c.fits.ensures.1 c.if-not-fits.true)

pub iterations-iterations-requires : goal.iterations-iterations-requires
iterations-iterations-requires c =
    let a = c.args in
    box_sizes a.count a.rows.now a.window a.bounds a.known c.requires.1 c.requires.0 c.placed_at-at.result (at-is (goal.at.iterations-iterations-requires c).After-placed_at-at) (c.fits.ensures.0 c.if-not-fits.false)

pub returns : goal.returns
returns c =
    let a = c.args in
    box_accepted a.count a.rows.now a.window a.bounds a.known c.requires.1 c.requires.0 c.placed_at-at.result (at-is (goal.at.returns c).After-placed_at-at) (c.fits.ensures.0 c.if-not-fits.false) _
    c.iterations-iterations.ensures
