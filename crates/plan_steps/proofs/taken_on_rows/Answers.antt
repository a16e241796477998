use Prim.Native.Nat.{ℕ, ◌-◌, ◌≤◌}
use mathlib.Core.List.{List}
use mathlib.Core.Path.{◌≡◌, sym, ◌∙◌, ap, subst}
use native.Mathlib.Omega.{arith}
use Rattle.model.specs.Values.{dims_of, offsets_of, on_rows, window_of}
use Rattle.model.specs.Iterations.{distance_of}
use Rattle.model.specs.Steps.{falling}
use Rattle.model.specs.declared.Window.{Window}
use Rattle.grid_laws.proofs.ChainLaws.{dims_skewed}
use Rattle.geometry.specs.Parts.{Filled}
use Rattle.row_courses.specs.CourseTables.{distance_count}
use Rattle.plan_steps.specs.Order.{Ordered}
use Rattle.plan_steps.proofs.RowDistances.{sorted_judged, row_distances}
use Rattle.plan_steps.proofs.StepLaws.{few, taken_from}
use Rattle.plan_steps.proofs.taken_on_rows.Goals as goal
use Rattle.plan_steps.proofs.taken_on_rows.Goals.{Start}

two : (c : Start) → dims_of c.args.grid ≡ 2
two c = dims_skewed c.args.grid c.requires.0

few-here : (c : Start) → c.args.window.count ≤ 32
few-here c = few c.args.grid c.args.rows.now c.args.window c.args.bounds c.requires.1

-- An order in two dimensions is one in the grid's.
ordered : (c : Start) (r : List ℕ) → Ordered 2 c.args.window.count c.args.window.offsets 0 r → Ordered (dims_of c.args.grid) c.args.window.count c.args.window.offsets 0 r
ordered c r o = subst (λ (n : ℕ). Ordered n c.args.window.count c.args.window.offsets 0 r) (sym (two c)) o

-- The distances are those of all neighbours of the sorted window.
all_found : (c : Start) (w : Window) (xs : List ℕ) → w ≡ window_of c.args.window.count (falling (offsets_of 2 c.args.window))
    → Filled 31 0 (distance_of (on_rows c.args.grid.rows c.args.rows.now w c.args.bounds)) (distance_count c.args.grid.rows c.args.rows.now w c.args.bounds) xs
    → Filled 31 0 (distance_of (on_rows c.args.grid.rows c.args.rows.now (window_of c.args.window.count (falling (offsets_of 2 c.args.window))) c.args.bounds)) (c.args.window.count - 1) xs
all_found c w xs e f = rw (sorted_judged c.args.grid c.requires.0 c.args.rows.now c.args.window c.args.bounds c.requires.1) at (rw e at f)

pub order_of-order-requires : goal.order_of-order-requires
order_of-order-requires c = (few-here (goal.at.order_of-order-requires c).Start, omega arith)

pub arranged-sorted-requires : goal.arranged-sorted-requires
arranged-sorted-requires c =
    (omega arith, few-here (goal.at.arranged-sorted-requires c).Start, c.order_of-order.ensures)

pub held_by-filters-requires : goal.held_by-filters-requires
held_by-filters-requires c =
    (few-here (goal.at.held_by-filters-requires c).Start, λ k h. c.order_of-order.ensures.below k (omega arith) h)

pub returns : goal.returns
returns c =
    taken_from c.args.grid c.args.rows.now c.args.window c.args.bounds c.requires.1 c.order_of-order.result (ordered (goal.at.returns c).Start c.order_of-order.result c.order_of-order.ensures) c.distances-distances.result
    (row_distances c.args.grid c.requires.0 c.args.rows.now c.args.window c.args.bounds c.requires.1 c.distances-distances.result (few-here (goal.at.returns c).Start)
    (all_found (goal.at.returns c).Start c.arranged-sorted.result c.distances-distances.result c.arranged-sorted.ensures c.distances-distances.ensures))
    c.arranged-sorted.result c.held_by-filters.result c.total-total.result
    (c.arranged-sorted.ensures ∙ ap (λ (n : ℕ). window_of c.args.window.count (falling (offsets_of n c.args.window))) (sym (two (goal.at.returns c).Start))) c.held_by-filters.ensures c.total-total.ensures
