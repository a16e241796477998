use mathlib.Core.List.{[]}
use Prim.Native.Nat.{ℕ, ◌≤◌}
use mathlib.Core.List.{List}
use mathlib.Core.Path.{◌≡◌, sym, ◌∙◌, ap, subst}
use native.Mathlib.Omega.{arith}
use Rattle.model.specs.Values.{dims_of, offsets_of, window_of}
use Rattle.model.specs.Steps.{falling}
use Rattle.grid_laws.proofs.ChainLaws.{dims_flat}
use Rattle.grid_laws.proofs.CheckLaws.{some_references}
use Rattle.grid_laws.proofs.StepLaws.{passed}
use Rattle.plan_steps.specs.Order.{Ordered}
use Rattle.plan_steps.proofs.DistanceLaws.{positions_fall, distances_are}
use Rattle.plan_steps.proofs.StepLaws.{few, low, taken_from}
use Rattle.plan_steps.proofs.taken.Goals as goal
use Rattle.plan_steps.proofs.taken.Goals.{Start}

-- The grid has the dimensions of a rectangle.
flat-dims : (c : Start) → dims_of c.args.grid ≡ c.args.grid.dims
flat-dims c = dims_flat c.args.grid c.requires.0

few-here : (c : Start) → c.args.window.count ≤ 32
few-here c = few c.args.grid [] c.args.window c.args.bounds c.requires.1

low-here : (c : Start) → c.args.grid.dims ≤ 4
low-here c = omega (arith, flat-dims c, low c.args.grid [] c.args.window c.args.bounds c.requires.1)

pub order_of-order-requires : goal.order_of-order-requires
order_of-order-requires c =
    (few-here (goal.at.order_of-order-requires c).Start, low-here (goal.at.order_of-order-requires c).Start)

-- An order in the rectangle's dimensions is one in the grid's.
ordered : (c : Start) (r : List ℕ) → Ordered c.args.grid.dims c.args.window.count c.args.window.offsets 0 r → Ordered (dims_of c.args.grid) c.args.window.count c.args.window.offsets 0 r
ordered c r o = subst (λ (n : ℕ). Ordered n c.args.window.count c.args.window.offsets 0 r) (sym (flat-dims c)) o

pub arranged-sorted-requires : goal.arranged-sorted-requires
arranged-sorted-requires c =
    (low-here (goal.at.arranged-sorted-requires c).Start, few-here (goal.at.arranged-sorted-requires c).Start, c.order_of-order.ensures)

pub held_by-filters-requires : goal.held_by-filters-requires
held_by-filters-requires c =
    (few-here (goal.at.held_by-filters-requires c).Start, λ k h. c.order_of-order.ensures.below k (omega arith) h)

pub distances-distances-requires : goal.distances-distances-requires
distances-distances-requires c = (
  some_references c.args.window.count (passed c.args.grid [] c.args.window c.args.bounds c.requires.1).count,
  few-here (goal.at.distances-distances-requires c).Start,
  λ k h. c.order_of-order.ensures.below k (omega arith) h,
  positions_fall c.args.grid c.requires.0 c.args.window c.args.bounds c.requires.1 c.args.at.now c.requires.2 c.order_of-order.result (ordered (goal.at.distances-distances-requires c).Start c.order_of-order.result c.order_of-order.ensures),
)

pub returns : goal.returns
returns c =
    taken_from c.args.grid [] c.args.window c.args.bounds c.requires.1 c.order_of-order.result (ordered (goal.at.returns c).Start c.order_of-order.result c.order_of-order.ensures) c.distances-distances.result
    (distances_are c.args.grid c.requires.0 c.args.window c.args.bounds c.requires.1 c.args.at.now c.requires.2 c.order_of-order.result (ordered (goal.at.returns c).Start c.order_of-order.result c.order_of-order.ensures) c.distances-distances.result (few-here (goal.at.returns c).Start) c.distances-distances.ensures)
    c.arranged-sorted.result c.held_by-filters.result c.total-total.result
    (c.arranged-sorted.ensures ∙ ap (λ (n : ℕ). window_of c.args.window.count (falling (offsets_of n c.args.window))) (sym (flat-dims (goal.at.returns c).Start))) c.held_by-filters.ensures c.total-total.ensures
