use Prim.Native.Nat.{◌+◌, ◌-◌}
use mathlib.Core.Path.{refl}
use native.Mathlib.Omega.{arith}
use Rattle.geometry.specs.Parts.{number_at}
use Rattle.geometry.proofs.FillLaws.{filled_none, filled_more, filled_up_to}
use Rattle.plan_steps.proofs.distances.differences.Goals as goal

pub loop-k-init : goal.loop-k-init
loop-k-init c =
    filled_none 31 0 (λ i. number_at c.args.at.now i - number_at c.args.at.now (i + 1))

pub overflow_sub-r : goal.overflow_sub-r
overflow_sub-r c =
    c.requires.2 c.loop-k.k (omega arith)

pub loop-k-preserved : goal.loop-k-preserved
loop-k-preserved c =
    filled_more 31 0 (λ i. number_at c.args.at.now i - number_at c.args.at.now (i + 1)) c.loop-k.k c.loop-k.r _ (omega arith) refl c.loop-k.invariant

pub returns : goal.returns
returns c =
    filled_up_to 31 0 (λ i. number_at c.args.at.now i - number_at c.args.at.now (i + 1)) c.loop-k.k (c.args.n - 1) c.loop-k.r (omega arith) c.loop-k.invariant
