use Prim.Native.Nat.{◌+◌, ◌-◌, ◌*◌, ◌/◌, ◌%◌}
use mathlib.Core.Path.{◌≡◌}
use native.Mathlib.Omega.{arith}
use Rattle.run_prepare.specs.Prepared.{number_at, walk_by}
use Rattle.run_prepare.proofs.PrepareWalks.{walk_none, walk_last}
use Rattle.run_prepare.proofs.walk.Goals as goal
use Rattle.run_prepare.proofs.walk.Goals.{After-cells-1}

-- What is walked and what is left make the whole way.
whole : (c : After-cells-1) →
    let d = c.loop-d.d - 1 in
    c.loop-d.cells + c.loop-d.rest % number_at c.args.extents.now d * number_at c.args.strides.now d
    + walk_by (number_at c.args.extents.now) (number_at c.args.strides.now) d (c.loop-d.rest / number_at c.args.extents.now d)
    ≡ walk_by (number_at c.args.extents.now) (number_at c.args.strides.now) c.args.dims c.args.j
whole c =
    omega (arith, c.loop-d.invariant, walk_last (number_at c.args.extents.now) (number_at c.args.strides.now) c.loop-d.d c.loop-d.rest (omega arith))

pub overflow_mul-cells : goal.overflow_mul-cells
overflow_mul-cells c = omega (arith, whole (goal.at.overflow_mul-cells c).After-cells-1, c.requires.near)

pub overflow_add-cells : goal.overflow_add-cells
overflow_add-cells c = omega (arith, whole (goal.at.overflow_add-cells c).After-cells-1, c.requires.near)

pub loop-d-preserved : goal.loop-d-preserved
loop-d-preserved c = (whole (goal.at.loop-d-preserved c).After-cells-1)

pub returns : goal.returns
returns c =
    omega (arith, c.loop-d.invariant, walk_none (number_at c.args.extents.now) (number_at c.args.strides.now) c.loop-d.d c.loop-d.rest (omega arith))
