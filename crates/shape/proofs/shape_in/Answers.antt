use Prim.Native.Nat.{◌<◌}
use mathlib.Core.Path.{◌≡◌, sym, ◌∙◌}
use native.Mathlib.Omega.{arith}
use Rattle.model.specs.Values.{sizes_of, offsets_of}
use Rattle.model.specs.declared.Window.{Window}
use Rattle.grid_laws.proofs.Rectangles.{iteration_count}
use Rattle.geometry.proofs.GridLaws.{few_dimensions, few_references}
use Rattle.geometry.specs.Parts.{Lows}
use Rattle.windows.proofs.LowLaws.{lows_there}
use Rattle.shape.proofs.ShapeLaws.{
  small_sizes,
  cells_are,
  small_extents,
  iterations_are,
  extents_are,
  strides_are,
  place_small,
  places_are,
  blank_iterations,
  whole_shape_lem,
  shape_from,
}
use Rattle.shape.proofs.shape_in.Goals as goal
use Rattle.shape.proofs.shape_in.Goals.{After-extents_of-extents, After-lows_of-lows, After-product-iterations, Else-iterations-eq0, Start}

-- The window.
abbrev window : Start → Window
window s = record { count = s.args.count; offsets = s.args.offsets.now }

-- The start, from the lows, from the extents and from their product.
abbrev from-lows : After-lows_of-lows → Start
from-lows c = c.before.before.before

abbrev from-extents : After-extents_of-extents → After-lows_of-lows
from-extents c = c.before.before.before

abbrev from-product : After-product-iterations → Start
from-product c = from-lows (from-extents c.before.before)

-- The lows that were found.
lows-are : (l : After-lows_of-lows) → let a = (from-lows l).args in Lows a.grid.dims a.count a.offsets.now l.lows_of-lows.result
lows-are l =
    let s = from-lows l in
    lows_there s.args.grid.dims s.args.count s.args.offsets.now l.lows_of-lows.result l.lows_of-lows.ensures
    (few_dimensions s.args.grid s.requires.0) (few_references (window s) s.requires.1)

pub extents_of-extents-requires : goal.extents_of-extents-requires
extents_of-extents-requires c =
    let s = from-lows (goal.at.extents_of-extents-requires c).After-lows_of-lows in
    (few_references (window s) s.requires.1, few_dimensions s.args.grid s.requires.0, lows-are (goal.at.extents_of-extents-requires c).After-lows_of-lows)

pub product-iterations-requires : goal.product-iterations-requires
product-iterations-requires c =
    let s = from-lows (from-extents (goal.at.product-iterations-requires c).After-extents_of-extents) in
    (omega arith, few_dimensions s.args.grid s.requires.0, small_extents s.args.grid (window s) s.requires.0 s.requires.1 c.extents_of-extents.result c.extents_of-extents.ensures)

-- The product of the extents is how many iterations there are.
is-count : (c : After-product-iterations) →
    let s = from-product c in
    c.product-iterations.result ≡ iteration_count (sizes_of s.args.grid) (offsets_of s.args.grid.dims (window s))
is-count c =
    let s = from-product c in
    c.product-iterations.ensures ∙ iterations_are s.args.grid (window s) s.requires.0 s.requires.1 c.extents_of-extents.result c.extents_of-extents.ensures

pub returns-then-iterations-eq0 : goal.returns-then-iterations-eq0
returns-then-iterations-eq0 c =
    let s = from-product (goal.at.returns-then-iterations-eq0 c).After-product-iterations in
    c.blank.ensures ∙ blank_iterations s.args.grid (window s) s.requires.0 s.requires.1 (sym (is-count (goal.at.returns-then-iterations-eq0 c).After-product-iterations) ∙ c.if-iterations-eq0.true)

pub product-cells-requires : goal.product-cells-requires
product-cells-requires c =
    let s = from-product (goal.at.product-cells-requires c).After-product-iterations in
    (omega arith, few_dimensions s.args.grid s.requires.0, small_sizes s.args.grid (window s) s.requires.0 s.requires.1)

pub strides_of-strides-requires : goal.strides_of-strides-requires
strides_of-strides-requires c =
    let s = from-product (goal.at.strides_of-strides-requires c).After-product-iterations in
    (few_dimensions s.args.grid s.requires.0, small_sizes s.args.grid (window s) s.requires.0 s.requires.1)

-- Where the product is not 0 there is an iteration.
some : (c : Else-iterations-eq0) →
    let s = from-product c.before in
    0 < iteration_count (sizes_of s.args.grid) (offsets_of s.args.grid.dims (window s))
some c = omega (arith, is-count c.before)

pub places_of-at-requires : goal.places_of-at-requires
places_of-at-requires c =
    let l = from-extents (goal.at.places_of-at-requires c).After-extents_of-extents in
    let s = from-lows l in (
      few_references (window s) s.requires.1,
      few_dimensions s.args.grid s.requires.0,
      place_small s.args.grid (window s) s.requires.0 s.requires.1 c.strides_of-strides.result c.strides_of-strides.ensures l.lows_of-lows.result (lows-are l) (some (goal.at.places_of-at-requires c).Else-iterations-eq0),
    )

pub returns : goal.returns
returns c =
    let l = from-extents (goal.at.returns c).After-extents_of-extents in
    let s = from-lows l in
    shape_from (sizes_of s.args.grid) (offsets_of s.args.grid.dims (window s)) _ _ _ _ _
    (c.product-cells.ensures ∙ cells_are s.args.grid (window s) s.requires.0 s.requires.1)
    (is-count (goal.at.returns c).After-product-iterations)
    (extents_are s.args.grid (window s) s.requires.0 s.requires.1 c.extents_of-extents.result c.extents_of-extents.ensures)
    (strides_are s.args.grid (window s) s.requires.0 s.requires.1 c.strides_of-strides.result c.strides_of-strides.ensures)
    (places_are s.args.grid (window s) s.requires.0 s.requires.1 c.strides_of-strides.result c.strides_of-strides.ensures l.lows_of-lows.result (lows-are l) (some (goal.at.returns c).Else-iterations-eq0)
    c.places_of-at.result c.places_of-at.ensures)
    ∙ whole_shape_lem s.args.grid (window s) s.requires.0 s.requires.1 (λ z. c.if-iterations-eq0.false (is-count (goal.at.returns c).After-product-iterations ∙ z))
