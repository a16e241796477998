use mathlib.Core.Path.{refl}
use native.Mathlib.Omega.{arith}
use Rattle.geometry.proofs.FillLaws.{filled_none, filled_more}
use Rattle.pair_plan.proofs.PairLaws.{rising_so}
use Rattle.pair_plan.proofs.rising_order.Goals as goal

pub loop-k-init : goal.loop-k-init
loop-k-init c = filled_none 32 0 (λ i. i)

pub loop-k-preserved : goal.loop-k-preserved
loop-k-preserved c =
    filled_more 32 0 (λ i. i) c.loop-k.k c.loop-k.filters _ (omega arith) refl c.loop-k.invariant

pub returns : goal.returns
returns c = rising_so c.args.n c.loop-k.k c.loop-k.filters (omega arith) c.loop-k.invariant
