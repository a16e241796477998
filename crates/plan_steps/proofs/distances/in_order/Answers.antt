use mathlib.Core.Path.{refl}
use native.Mathlib.Omega.{arith}
use Rattle.geometry.specs.Parts.{number_at}
use Rattle.geometry.proofs.FillLaws.{filled_none, filled_more, filled_up_to}
use Rattle.plan_steps.proofs.distances.in_order.Goals as goal

pub loop-k-init : goal.loop-k-init
loop-k-init c =
    filled_none 32 0 (λ i. number_at c.args.at.now (number_at c.args.order.now i))

pub offset_bounds-at-t : goal.offset_bounds-at-t
offset_bounds-at-t c =
    omega (arith, c.requires.1 c.loop-k.k (omega arith))

pub bounds-at-t : goal.bounds-at-t
bounds-at-t c =
    omega (arith, c.requires.1 c.loop-k.k (omega arith))

pub loop-k-preserved : goal.loop-k-preserved
loop-k-preserved c =
    filled_more 32 0 (λ i. number_at c.args.at.now (number_at c.args.order.now i)) c.loop-k.k c.loop-k.r _ (omega arith) refl c.loop-k.invariant

pub returns : goal.returns
returns c =
    filled_up_to 32 0 (λ i. number_at c.args.at.now (number_at c.args.order.now i)) c.loop-k.k c.args.n c.loop-k.r (omega arith) c.loop-k.invariant
