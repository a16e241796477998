use Prim.Native.Nat.{◌+◌, ◌*◌}
use mathlib.Core.Path.{◌≡◌, ◌∙◌}
use native.Mathlib.Omega.{arith}
use Rattle.model.specs.Lists.{tabulate, sum}
use Rattle.geometry.specs.Parts.{part, number_at}
use Rattle.shape.proofs.PlacingLaws.{sum_start, sum_on, sum_end}
use Rattle.shape.proofs.boxed.cells_behind.Invariants.{steps}
use Rattle.shape.proofs.boxed.cells_behind.Goals as goal
use Rattle.shape.proofs.boxed.cells_behind.Goals.{After-cells-in-loop-d-1}

pub loop-d-init : goal.loop-d-init
loop-d-init c = sum_start (steps c.args.firsts.now c.args.strides.now) c.args.dims

-- What is at hand and what is left make the whole.
whole : (c : After-cells-in-loop-d-1) →
    c.loop-d.cells + number_at c.args.firsts.now c.loop-d.d * number_at c.args.strides.now c.loop-d.d + sum (part (steps c.args.firsts.now c.args.strides.now) (c.loop-d.d + 1) c.args.dims)
    ≡ sum (tabulate c.args.dims (steps c.args.firsts.now c.args.strides.now))
whole c =
    sum_on (steps c.args.firsts.now c.args.strides.now) c.loop-d.cells c.loop-d.d c.args.dims (omega arith) ∙ c.loop-d.invariant

pub overflow_mul-cells : goal.overflow_mul-cells
overflow_mul-cells c = omega (arith, whole c, c.requires.1)

pub overflow_add-cells : goal.overflow_add-cells
overflow_add-cells c = omega (arith, whole c, c.requires.1)

pub loop-d-preserved : goal.loop-d-preserved
loop-d-preserved c = whole c

pub returns : goal.returns
returns c =
    sum_end (steps c.args.firsts.now c.args.strides.now) c.loop-d.cells c.loop-d.d c.args.dims (omega arith) ∙ c.loop-d.invariant
