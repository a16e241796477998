use mathlib.Core.Path.{◌∙◌, ap}
use Rattle.geometry.proofs.EntryLaws.{entry_back}
use Rattle.geometry.proofs.GridLaws.{few_references}
use Rattle.windows.specs.Lows.{heights_in}
use Rattle.rows.proofs.WindowLaws.{low_row_lem, low_column_lem, downs_are, ons_are}
use Rattle.rows.proofs.SurveyLaws.{whole_is}
use Rattle.rows.proofs.whole_course.Goals as goal

pub returns : goal.returns
returns c =
    let w = c.args.window in
    let few = few_references w c.requires in
    let low-0 = entry_back c.low_in-low_row.result c.low_in-low_row.type_inv ∙ c.low_in-low_row.ensures ∙ low_row_lem w few in
    let low-1 = entry_back c.low_in-low_column.result c.low_in-low_column.type_inv ∙ c.low_in-low_column.ensures ∙ low_column_lem w few in
    whole_is c.args.count w _ _
    (c.heights_in-down.ensures ∙ ap (heights_in w.count w.offsets 0) low-0 ∙ downs_are w few)
    (c.heights_in-on.ensures ∙ ap (heights_in w.count w.offsets 1) low-1 ∙ ons_are w few)
