use Prim.Native.Nat.{ℕ, ◌≤◌}
use mathlib.Core.Bool.{true, false}
use mathlib.Core.Path.{◌≡◌, ◌∙◌}
use lib.Dec.{eqb, ltb}
use lib.ListN.{get_or}
use borrow.Author.Tests.{ltb-false}
use Rattle.model.specs.Lists.{tabulate, any}
use Rattle.model.specs.Values.{order_of}
use Rattle.model.specs.Judging.{bad_count, bad_order, twice}
use Rattle.model.specs.declared.Order.{Order}
use Rattle.grid_laws.proofs.Tests.{neither}
use Rattle.judging.proofs.bad_order.Goals as goal

few : (n : ℕ) → bad_count n ≡ false → n ≤ 32
unfolding bad_count
few n e = ltb-false 32 n (neither (eqb n 0) (ltb 32 n) e).1

pub not_each_once-requires : goal.not_each_once-requires
not_each_once-requires c = few _ c.requires

-- An order that stood, and one that did not.
stood-is : (n : ℕ) (o : Order) → o.stood ≡ true → bad_order n (tabulate n (λ t. get_or o.filters t 0)) ≡ bad_order n (order_of n o)
unfolding order_of
stood-is n o e = rw e

absent-is : (n : ℕ) (o : Order) → o.stood ≡ false → false ≡ bad_order n (order_of n o)
unfolding order_of bad_order any twice
absent-is n o e = rw e

pub returns-then-order : goal.returns-then-order
returns-then-order c = c.not_each_once.ensures ∙ stood-is _ _ c.if-order.true

pub returns-else-order : goal.returns-else-order
returns-else-order c = c.if-order.false ∙ absent-is _ c.args.order c.if-order.false
