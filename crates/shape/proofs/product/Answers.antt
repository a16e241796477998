use Prim.Native.Nat.{◌-◌, ◌*◌}
use mathlib.Core.Path.{◌≡◌}
use native.Mathlib.Omega.{arith}
use Rattle.model.specs.Lists.{product}
use Rattle.geometry.specs.Parts.{part, number_at}
use Rattle.shape.proofs.PlacingLaws.{product_none, product_back}
use Rattle.shape.proofs.product.Goals as goal
use Rattle.shape.proofs.product.Goals.{After-p-1}

pub loop-d-init : goal.loop-d-init
loop-d-init c = (omega arith, product_none (number_at c.args.xs.now) c.args.to c.args.to (omega arith))

-- One number further to the front.
back : (c : After-p-1) →
    c.loop-d.p * number_at c.args.xs.now (c.loop-d.d - 1) ≡ product (part (number_at c.args.xs.now) (c.loop-d.d - 1) c.args.to)
back c =
    product_back (number_at c.args.xs.now) c.loop-d.d c.args.to c.loop-d.p (omega arith) (omega arith) c.loop-d.invariant.1

pub overflow_mul-p : goal.overflow_mul-p
overflow_mul-p c = omega (arith, back c, c.requires.2 (c.loop-d.d - 1))

pub loop-d-preserved : goal.loop-d-preserved
loop-d-preserved c = (omega arith, back c)
