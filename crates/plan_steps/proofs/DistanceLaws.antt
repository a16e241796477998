-- Laws of the distances of neighbours in the order of the sorted offsets.
use Prim.Native.Nat.{ℕ, suc, ◌+◌, ◌-◌, ◌≤◌, ◌<◌}
use mathlib.Core.Bool.{false}
use mathlib.Core.List.{List, []}
use mathlib.Core.Path.{◌≡◌, refl, sym, ◌∙◌, ap, ap₂}
use native.Mathlib.Numerals.{add-one}
use native.Mathlib.Omega.{arith}
use lib.IntN.{ℤ}
use lib.ListN.{get_or, get_or-eq_default}
use Rattle.model.specs.Vectors.{plus}
use Rattle.model.specs.Grounds.{position}
use Rattle.model.specs.Values.{Trimmed, sizes_of, ground_of, dims_of, offset_of, offsets_of, on_grid, capacity_array}
use Rattle.model.specs.Iterations.{position_of, iteration_of, reads_of, distance_of}
use Rattle.model.specs.Judging.{judge_window, judge_rectangle}
use Rattle.model.specs.Steps.{sorted, distances}
use Rattle.model.specs.declared.Bounds.{Bounds}
use Rattle.model.specs.declared.Grid.{Grid}
use Rattle.model.specs.declared.Window.{Window}
use Rattle.std.specs.Prelude.{Ok}
use Rattle.grid_laws.proofs.ListLaws.{length_tabulate, get_d_tabulate}
use Rattle.grid_laws.proofs.ChainLaws.{ground_flat, on_flat}
use Rattle.grid_laws.proofs.CheckLaws.{answer_back}
use Rattle.grid_laws.proofs.SortLaws.{falling_each, falling_no_other}
use Rattle.grid_laws.proofs.Iterations.{falls, same_distance}
use Rattle.grid_laws.proofs.SameWindows.{same_iteration}
use Rattle.grid_laws.proofs.StepLaws.{arranged_fits, arranged_falls, some_arranged}
use Rattle.geometry.specs.Parts.{number_at, Filled}
use Rattle.geometry.proofs.FillLaws.{filled_all}
use Rattle.shape.specs.Shapes.{shape_for, survey_of}
use Rattle.shape.specs.declared.Survey.{Survey}
use Rattle.plan_steps.specs.Order.{Ordered, FirstPositions}
use Rattle.plan_steps.proofs.HeldLaws.{holds_at}

module _ (g : Grid) (flat : g.skewed ≡ false) (w : Window) (x : Bounds) (e : judge_window g [] w x ≡ Ok tt) (at : List ℕ) (first : FirstPositions g w x at)
    (order : List ℕ) (r : Ordered (dims_of g) w.count w.offsets 0 order) where
  abbrev arranged : Trimmed
  arranged = sorted (on_grid g [] w x)

  abbrev sorted_at : ℕ → ℕ
  sorted_at k = number_at at (number_at order k)

  -- The positions in that order are those that the sorted offsets read.
  placed : (k : ℕ) → k < w.count → sorted_at k ≡ reads_of arranged 0 k
  unfolding offsets_of offset_of reads_of position_of sorted
  placed k h =
      first (number_at order k) (r.below k (omega arith) h)
      ∙ ap₂ (λ (v o : List ℤ). position (ground_of g []) (plus v o)) (sym (same_iteration arranged (on_grid g [] w x) refl (falling_no_other os) (falling_each os) refl 0))
      (sym (holds_at (dims_of g) w.count w.offsets order r k h))
    where
      os : List (List ℤ)
      os = offsets_of (dims_of g) w

  pub positions_fall : (k : ℕ) → k + 1 < w.count → sorted_at (k + 1) ≤ sorted_at k
  unfolding sorted
  positions_fall k h =
      omega (
        arith,
        placed (k + 1) h,
        placed k (omega arith),
        ap (reads_of arranged 0) (add-one k),
        (falls arranged (arranged_fits g [] w x e) 0 k (suc k) (some_arranged g [] w x e) (omega arith) (omega arith)).0 (arranged_falls g [] w x e k (omega arith)),
      )

  pub distances_are : (xs : List ℕ) → w.count ≤ 32 → Filled 31 0 (λ k. sorted_at k - sorted_at (k + 1)) (w.count - 1) xs → xs ≡ capacity_array (distances (sorted (on_grid g [] w x)))
  unfolding distances sorted
  distances_are xs few f = filled_all 31 0 (λ k. sorted_at k - sorted_at (k + 1)) capacity (w.count - 1) xs here past f
    where
      capacity : ℕ → ℕ
      capacity k = get_or (distances (sorted (on_grid g [] w x))) k 0

      here : (k : ℕ) → k < w.count - 1 → sorted_at k - sorted_at (k + 1) ≡ capacity k
      here k h =
          let l : k + 1 < w.count = omega arith in
          ap₂ ◌-◌ (placed k (omega arith)) (placed (k + 1) l ∙ ap (reads_of arranged 0) (add-one k))
          ∙ same_distance arranged (arranged_fits g [] w x e) (sizes_of g) (ground_flat g flat []) 0 k (some_arranged g [] w x e) (omega arith)
          ∙ sym (get_d_tabulate (w.count - 1) (distance_of arranged) k 0 h)

      past : (k : ℕ) → w.count - 1 ≤ k → capacity k ≡ 0
      past k h = get_or-eq_default (distances (sorted (on_grid g [] w x))) 0 (rw length_tabulate h)

-- The positions of the first iteration, as the survey of a window finds them.
pub first_positions : (g : Grid) → g.skewed ≡ false → (w : Window) (x : Bounds) → w.count ≤ 32 → (s : Survey) → survey_of g w x ≡ Ok s → FirstPositions g w x s.shape.at
unfolding survey_of shape_for reads_of position_of iteration_of
first_positions g flat w x few s d k h =
    ap (λ (t : Survey). number_at t.shape.at k) (answer_back (judge_rectangle g w x) _ s d) ∙ get_d_tabulate 32 _ k 0 (omega arith) ∙ ap (λ (t : Trimmed). reads_of t 0 k) (sym (on_flat g flat [] w x))
