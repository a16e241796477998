use Prim.Native.Nat.{◌-◌}
use Prim.Native.Nat.{◌+◌}
use mathlib.Core.Path.{◌∙◌, ap₂}
use native.Mathlib.Omega.{arith}
use Rattle.plan_steps.proofs.distances.distances.Goals as goal

pub in_order-sorted-requires : goal.in_order-sorted-requires
in_order-sorted-requires c = (c.requires.1, c.requires.2)

pub differences-requires : goal.differences-requires
differences-requires c =
    let p = c.requires in
    (p.0, p.1, λ k h. omega (arith, c.in_order-sorted.ensures.done k (omega arith), c.in_order-sorted.ensures.done (k + 1) h, p.3 k h))

pub returns : goal.returns
returns c =
    record {
      long = c.differences.ensures.long;
      done = λ k h. c.differences.ensures.done k h ∙ ap₂ ◌-◌ (c.in_order-sorted.ensures.done k (omega arith)) (c.in_order-sorted.ensures.done (k + 1) (omega arith));
      left = c.differences.ensures.left;
    }
