-- Laws that lead from the three steps' results to the definition of them together.
use Prim.Native.Nat.{ℕ, ◌-◌, ◌≤◌}
use mathlib.Core.Bool.{false}
use mathlib.Core.List.{List}
use mathlib.Core.Path.{◌≡◌, refl, sym, ◌∙◌, ap}
use native.Mathlib.Omega.{arith}
use lib.ListN.{get_or, get_or-eq_default}
use Rattle.model.specs.Lists.{tabulate, sum}
use Rattle.model.specs.Values.{ground_of, dims_of, offset_of, offsets_of, on_grid, window_of, capacity_array, filter_array}
use Rattle.model.specs.Judging.{bad_count, judge_window}
use Rattle.model.specs.Steps.{falling, authors_order, sorted, distances, total, steps_of}
use Rattle.model.specs.declared.Bounds.{Bounds}
use Rattle.model.specs.declared.Grid.{Grid}
use Rattle.model.specs.declared.Window.{Window}
use Rattle.std.specs.Prelude.{Ok}
use Rattle.grid_laws.proofs.ChainLaws.{ground_dims, offsets_count}
use Rattle.grid_laws.proofs.TermLaws.{length_authors}
use Rattle.grid_laws.proofs.CheckLaws.{few_dims, few_references}
use Rattle.grid_laws.proofs.StepLaws.{steps_taken, passed, distances_back}
use Rattle.geometry.specs.Parts.{number_at}
use Rattle.geometry.proofs.FillLaws.{filled_all}
use Rattle.plan_steps.specs.Order.{Ordered, HeldBy}
use Rattle.plan_steps.specs.Totals.{total_in}
use Rattle.plan_steps.proofs.HeldLaws.{order_inverse}

-- The sum in an array, where 4 lets the count pass.
pub total_in_lem : (count : ℕ) (sizes : List ℕ) → bad_count count ≡ false → total_in count sizes ≡ sum (tabulate (count - 1) (number_at sizes))
unfolding total_in
total_in_lem count sizes e = rw e

module _ (g : Grid) (rows : List ℕ) (w : Window) (x : Bounds) (e : judge_window g rows w x ≡ Ok tt) where
  pub few : w.count ≤ 32
  few = few_references w.count (passed g rows w x e).count

  pub low : dims_of g ≤ 4
  low = few_dims (dims_of g) (ground_of g rows) (ground_dims g rows) (passed g rows w x e).grid

  module _ (order : List ℕ) (r : Ordered (dims_of g) w.count w.offsets 0 order) where
    filters_are : (fs : List ℕ) → HeldBy w.count order fs → fs ≡ filter_array (authors_order (offsets_of (dims_of g) w))
    unfolding offsets_of offset_of
    filters_are fs held =
        let os = offsets_of (dims_of g) w in
        filled_all 32 0 (λ t. get_or (authors_order os) t 0) (λ t. get_or (authors_order os) t 0) w.count fs (λ t h. refl)
        (λ t h. get_or-eq_default (authors_order os) 0 (omega (arith, length_authors os, offsets_count (dims_of g) w)))
        (held (λ t. get_or (authors_order os) t 0) (order_inverse (dims_of g) w.count w.offsets order r (passed g rows w x e).distinct))

    -- The results, where the distances are those of the sorted offsets.
    module _ (xs : List ℕ) (distances_are : xs ≡ capacity_array (distances (sorted (on_grid g rows w x)))) where
      total_is : total_in w.count xs ≡ total (sorted (on_grid g rows w x))
      unfolding total
      total_is =
          total_in_lem w.count xs (passed g rows w x e).count
          ∙ (ap (λ (ys : List ℕ). sum (tabulate (w.count - 1) (number_at ys))) distances_are ∙ ap sum (distances_back g rows w x e))

      pub taken_from : (ws : Window) (fs : List ℕ) (t : ℕ) → ws ≡ window_of w.count (falling (offsets_of (dims_of g) w)) → HeldBy w.count order fs → t ≡ total_in w.count xs
          → Ok (record { window = ws; filters = fs; distances = xs; total = t }) ≡ steps_of g rows w x
      taken_from ws fs t a held d =
          (λ i. Ok (record {
            window = a i;
            filters = filters_are fs held i;
            distances = distances_are i;
            total = (d ∙ total_is) i;
          })) ∙ sym (steps_taken g rows w x e)
