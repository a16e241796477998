-- Laws of the distances of neighbours on rows: those of the sorted window are found.
use Prim.Native.Nat.{ℕ, suc, ◌-◌, ◌≤◌, ◌<◌}
use mathlib.Core.Bool.{true}
use mathlib.Core.List.{List, []}
use mathlib.Core.Path.{◌≡◌, sym, ◌∙◌, subst}
use lib.ListN.{get_or, get_or-eq_default}
use Rattle.model.specs.Vectors.{before}
use Rattle.model.specs.Values.{Trimmed, ground_of, dims_of, offsets_of, on_grid, on_rows, window_of, capacity_array}
use Rattle.model.specs.Iterations.{course_of, iteration_of, position_of, reads_of, distance_in, distance_of}
use Rattle.model.specs.Judging.{window_checks, judge_window, judge_rows}
use Rattle.model.specs.Steps.{falling, sorted, distances}
use Rattle.model.specs.declared.Bounds.{Bounds}
use Rattle.model.specs.declared.Grid.{Grid}
use Rattle.model.specs.declared.Window.{Window}
use Rattle.std.specs.Prelude.{Ok}
use Rattle.grid_laws.proofs.ListLaws.{length_tabulate, get_d_tabulate}
use Rattle.grid_laws.proofs.ChainLaws.{dims_skewed}
use Rattle.grid_laws.proofs.StepLaws.{arranged_judged, arranged_back, arranged_falls}
use Rattle.geometry.specs.Parts.{Filled}
use Rattle.geometry.proofs.FillLaws.{filled_all}

module _ (g : Grid) (skewed : g.skewed ≡ true) (rows : List ℕ) (w : Window) (x : Bounds) (e : judge_window g rows w x ≡ Ok tt) where
  abbrev arranged : Trimmed
  arranged = sorted (on_grid g rows w x)

  -- The sorted window.
  abbrev pub sorted_window : Window
  sorted_window = window_of w.count (falling (offsets_of 2 w))

  offsets_are : offsets_of 2 sorted_window ≡ falling (offsets_of 2 w)
  offsets_are =
      subst (λ (n : ℕ). offsets_of n (window_of w.count (falling (offsets_of n w))) ≡ falling (offsets_of n w)) (dims_skewed g skewed) (arranged_back g rows w x e)

  pub sorted_judged : judge_rows g.rows rows sorted_window x ≡ Ok tt
  unfolding window_checks sorted ground_of dims_of
  sorted_judged = rw offsets_are (rw skewed at (arranged_judged g rows w x e))

  pub sorted_falls : (k : ℕ) → suc k < w.count → before (get_or (offsets_of 2 sorted_window) (suc k) []) (get_or (offsets_of 2 sorted_window) k []) ≡ true
  unfolding dims_of
  sorted_falls k h = rw offsets_are (rw skewed at (arranged_falls g rows w x e k h))

  same_distance : (k : ℕ) → distance_of (on_rows g.rows rows sorted_window x) k ≡ distance_of arranged k
  unfolding distance_of distance_in reads_of position_of iteration_of course_of sorted ground_of dims_of
  same_distance k = rw (skewed, offsets_are)

  pub row_distances : (xs : List ℕ) → w.count ≤ 32 → Filled 31 0 (distance_of (on_rows g.rows rows sorted_window x)) (w.count - 1) xs → xs ≡ capacity_array (distances (sorted (on_grid g rows w x)))
  unfolding distances sorted
  row_distances xs few f = filled_all 31 0 (distance_of (on_rows g.rows rows sorted_window x)) capacity (w.count - 1) xs here past f
    where
      capacity : ℕ → ℕ
      capacity k = get_or (distances (sorted (on_grid g rows w x))) k 0

      here : (k : ℕ) → k < w.count - 1 → distance_of (on_rows g.rows rows sorted_window x) k ≡ capacity k
      here k h = same_distance k ∙ sym (get_d_tabulate (w.count - 1) (distance_of arranged) k 0 h)

      past : (k : ℕ) → w.count - 1 ≤ k → capacity k ≡ 0
      past k h = get_or-eq_default (distances (sorted (on_grid g rows w x))) 0 (rw length_tabulate h)
