use native.Mathlib.Omega.{arith}
use Rattle.geometry.proofs.GridLaws.{few_dimensions, few_references}
use Rattle.geometry.specs.Parts.{Lows}
use Rattle.windows.proofs.LowLaws.{lows_there}
use Rattle.shape.proofs.BoxingLaws.{refused_box, small_widths, reads_small, behind_small, accepted_box, extents_there}
use Rattle.shape.proofs.survey_box.Goals as goal
use Rattle.shape.proofs.survey_box.Goals.{After-lows_of-lows}

pub place_box-requires : goal.place_box-requires
place_box-requires c = few_dimensions c.args.grid c.requires.1.grid

lows-are : (l : After-lows_of-lows) → let a = l.args in Lows a.grid.dims a.window.count a.window.offsets l.lows_of-lows.result
lows-are l =
    let a = l.args in
    lows_there a.grid.dims a.window.count a.window.offsets l.lows_of-lows.result l.lows_of-lows.ensures
    (few_dimensions a.grid l.requires.1.grid) (few_references a.window l.requires.1.count)

pub returns-in_default : goal.returns-in_default
returns-in_default c =
    let l = (goal.at.returns-in_default c).After-lows_of-lows in
    let a = c.args in
    refused_box a.grid a.window a.bounds c.requires.1.grid c.requires.1.count c.lows_of-lows.result (lows-are l) a.whole.extents
    (extents_there a.grid a.window a.centre a.whole c.requires.1) a.centre a.whole c.requires.1 c.requires.0 c.in_default.ensures

pub cells_behind-cells-requires : goal.cells_behind-cells-requires
cells_behind-cells-requires c =
    let l = (goal.at.cells_behind-cells-requires c).After-lows_of-lows in
    let a = c.args in (
      few_dimensions a.grid c.requires.1.grid,
      behind_small a.grid a.window a.bounds c.requires.1.grid c.requires.1.count c.lows_of-lows.result (lows-are l) a.whole.extents
          (extents_there a.grid a.window a.centre a.whole c.requires.1) a.centre a.whole c.in-Some.place c.requires.1 c.requires.0 c.in-Some.ensures,
    )

pub further-at-requires : goal.further-at-requires
further-at-requires c =
    let l = (goal.at.further-at-requires c).After-lows_of-lows in
    let a = c.args in (
      few_references a.window c.requires.1.count,
      λ k h. rw c.cells_behind-cells.ensures
          (reads_small a.grid a.window a.bounds c.requires.1.grid c.requires.1.count c.lows_of-lows.result (lows-are l) a.whole.extents
          (extents_there a.grid a.window a.centre a.whole c.requires.1) a.centre a.whole c.in-Some.place c.requires.1 c.requires.0 c.in-Some.ensures k h),
    )

pub product-iterations-requires : goal.product-iterations-requires
product-iterations-requires c =
    let l = (goal.at.product-iterations-requires c).After-lows_of-lows in
    let a = c.args in (
      omega arith,
      few_dimensions a.grid c.requires.1.grid,
      small_widths a.grid a.window a.bounds c.requires.1.grid c.requires.1.count c.lows_of-lows.result (lows-are l) a.whole.extents
          (extents_there a.grid a.window a.centre a.whole c.requires.1) a.centre a.whole c.in-Some.place c.requires.1 c.requires.0 c.in-Some.ensures,
    )

pub returns : goal.returns
returns c =
    let l = (goal.at.returns c).After-lows_of-lows in
    let a = c.args in
    accepted_box a.grid a.window a.bounds c.requires.1.grid c.requires.1.count c.lows_of-lows.result (lows-are l) a.whole.extents
    (extents_there a.grid a.window a.centre a.whole c.requires.1) a.centre a.whole c.in-Some.place c.requires.1 c.requires.0 c.in-Some.ensures
    _ _ c.product-iterations.ensures (rw c.cells_behind-cells.ensures at c.further-at.ensures)
