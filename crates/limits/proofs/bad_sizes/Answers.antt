use Prim.Native.Nat.{◌<◌}
use mathlib.Core.Path.{◌≡◌, sym, ◌∙◌}
use native.Mathlib.Omega.{arith}
use lib.ListN.{length, take, get_or, length-take}
use lib.Seq.{get_or-take}
use borrow.Author.Rules.{rules}
use Rattle.limits.proofs.SizeLaws.{from_first, size_fits, none_left, zero_here, onward, many_here}
use Rattle.limits.proofs.bad_sizes.Goals as goal
use Rattle.limits.proofs.bad_sizes.Goals.{In-loop-d}

pub loop-d-init : goal.loop-d-init
loop-d-init c = (omega arith, from_first _)

pub bounds-sizes-d : goal.bounds-sizes-d
bounds-sizes-d c = omega (arith, c.min-n.ensures)

-- The size that was looked at.
within : (c : In-loop-d) →
    c.loop-d.d < length (take c.args.dims c.args.sizes)
within c = simp length-take (omega (arith, c.min-n.ensures))

size_is : (c : In-loop-d) →
    get_or c.args.sizes c.loop-d.d 0 ≡ get_or (take c.args.dims c.args.sizes) c.loop-d.d 0
size_is c =
    sym (get_or-take c.args.dims c.args.sizes c.loop-d.d 0 (omega (arith, c.min-n.ensures)))

pub returns-then-size-eq0 : goal.returns-then-size-eq0
returns-then-size-eq0 c =
    zero_here c.loop-d.cells c.loop-d.d _ _ (within (goal.at.returns-then-size-eq0 c).In-loop-d) (size_is (goal.at.returns-then-size-eq0 c).In-loop-d) c.if-size-eq0.true ∙ c.loop-d.invariant.1

pub overflow_mul-cells : goal.overflow_mul-cells
overflow_mul-cells c =
    record { fits = size_fits c.loop-d.cells _ c.loop-d.invariant.0 c.loop-d-test.element_fits.fits }

pub returns-then-cells-gt-MOST_CELLS : goal.returns-then-cells-gt-MOST_CELLS
returns-then-cells-gt-MOST_CELLS c =
    many_here c.loop-d.cells c.loop-d.d _ _ (within (goal.at.returns-then-cells-gt-MOST_CELLS c).In-loop-d) (size_is (goal.at.returns-then-cells-gt-MOST_CELLS c).In-loop-d) c.if-size-eq0.false c.if-cells-gt-MOST_CELLS.true ∙ c.loop-d.invariant.1

pub loop-d-preserved : goal.loop-d-preserved
loop-d-preserved c =
    (search rules, onward c.loop-d.cells c.loop-d.d _ _ (within (goal.at.loop-d-preserved c).In-loop-d) (size_is (goal.at.loop-d-preserved c).In-loop-d) (search rules) ∙ c.loop-d.invariant.1)

pub returns : goal.returns
returns c =
    none_left c.loop-d.cells c.loop-d.d _ c.loop-d.invariant.0 (simp length-take (omega (arith, c.min-n.ensures))) ∙ c.loop-d.invariant.1
