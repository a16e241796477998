-- Laws that lead from the steps to the plan.
use Prim.Native.Nat.{ℕ, ◌≤◌}
use mathlib.Core.Bool.{Bool, true, false, cond}
use mathlib.Core.List.{List, []}
use mathlib.Core.Path.{◌≡◌, sym, ◌∙◌, ap}
use lib.IntN.{ℤ, pos}
use lib.ListN.{get_or, replicate, get_or-eq_default}
use Rattle.model.specs.Lists.{tabulate}
use Rattle.model.specs.Values.{sizes_of, ground_of, dims_of, part_of, on_grid, index_array, no_bounds, bounds_of, size_array, normal_grid}
use Rattle.model.specs.Judging.{judge_window, judge_behind}
use Rattle.model.specs.Steps.{steps_of}
use Rattle.model.specs.Planning.{judge_request, plan_of, chain_by}
use Rattle.model.specs.declared.Bounds.{Bounds}
use Rattle.model.specs.declared.Chain.{Chain}
use Rattle.model.specs.declared.Grid.{Grid}
use Rattle.model.specs.declared.Refusal.{Refusal}
use Rattle.model.specs.declared.Request.{Request}
use Rattle.model.specs.declared.Steps.{Steps}
use Rattle.std.specs.Prelude.{Ok, Err}
use Rattle.grid_laws.proofs.ListLaws.{length_tabulate, get_d_tabulate}
use Rattle.grid_laws.proofs.ChainLaws.{ground_dims}
use Rattle.grid_laws.proofs.CheckLaws.{WindowPasses, few_dims, few_references}
use Rattle.grid_laws.proofs.StepLaws.{steps_passed, steps_given, passed, judged_by_steps, plan_taken, chain_by_steps}
use Rattle.geometry.specs.Parts.{number_at, Filled}
use Rattle.windows.specs.Windows.{has_centre}
use Rattle.geometry.proofs.FillLaws.{filled_all}
use Rattle.windows.proofs.OffsetLaws.{has_centre_is}

-- The sizes with 0 past the last.
sizes_are : (g : Grid) (ys : List ℕ) → Filled 4 0 (number_at g.sizes) g.dims ys → ys ≡ size_array (sizes_of g)
unfolding sizes_of
sizes_are g ys r =
    filled_all 4 0 (number_at g.sizes) (λ d. get_or (sizes_of g) d 0) g.dims ys (λ d h. sym (get_d_tabulate g.dims (number_at g.sizes) d 0 h))
    (λ d h. get_or-eq_default (sizes_of g) 0 (rw length_tabulate h)) r

-- The box with 0 past the last.
indices_are : (dims : ℕ) (xs ys : List ℤ) → Filled 4 (pos 0) (λ d. get_or xs d (pos 0)) dims ys → ys ≡ index_array (tabulate dims (λ d. get_or xs d (pos 0)))
indices_are dims xs ys r =
    filled_all 4 (pos 0) (λ d. get_or xs d (pos 0)) (λ d. get_or (tabulate dims (λ i. get_or xs i (pos 0))) d (pos 0)) dims ys
    (λ d h. sym (get_d_tabulate dims (λ i. get_or xs i (pos 0)) d (pos 0) h)) (λ d h. get_or-eq_default (tabulate dims (λ i. get_or xs i (pos 0))) (pos 0) (rw length_tabulate h)) r

pub box_is : (dims : ℕ) (b : Bounds) (ls hs : List ℤ) → b.stood ≡ true → Filled 4 (pos 0) (λ d. get_or b.lowest d (pos 0)) dims ls → Filled 4 (pos 0) (λ d. get_or b.highest d (pos 0)) dims hs
    → record { stood = true; lowest = ls; highest = hs } ≡ bounds_of (part_of dims b)
unfolding bounds_of part_of
box_is dims b ls hs e l h = rw (e, indices_are dims b.lowest ls l, indices_are dims b.highest hs h)

pub no_box_is : (dims : ℕ) (b : Bounds) → b.stood ≡ false → no_bounds ≡ bounds_of (part_of dims b)
unfolding bounds_of part_of
no_box_is dims b e = rw e

pub flat_grid : (g : Grid) (ys : List ℕ) → g.skewed ≡ false → Filled 4 0 (number_at g.sizes) g.dims ys → record { skewed = false; rows = 0; dims = g.dims; sizes = ys } ≡ normal_grid g
unfolding dims_of
flat_grid g ys flat r =
    ap (λ (zs : List ℕ). record { skewed = false; rows = 0; dims = g.dims; sizes = zs }) (sizes_are g ys r)
    ∙ ap (λ (t : Bool). record { skewed = t; rows = cond t g.rows 0; dims = cond t 2 g.dims; sizes = size_array (cond t [] (sizes_of g)) }) (sym flat)

pub skewed_grid_lem : (g : Grid) → g.skewed ≡ true → record { skewed = true; rows = g.rows; dims = 2; sizes = replicate 4 0 } ≡ normal_grid g
unfolding dims_of tabulate
skewed_grid_lem g skewed = rw skewed

-- Of the steps' refusal, of judging's, and of neither.
module _ (r : Request) (rows : List ℕ) where
  steps-refused : (x : Refusal) → steps_of r.grid rows r.window r.bounds ≡ Err x → judge_request r rows ≡ Err x
  steps-refused x e = judged_by_steps r rows ∙ rw e

  pub request_refused : (x : Refusal) → steps_of r.grid rows r.window r.bounds ≡ Err x → Err x ≡ judge_request r rows
  request_refused x e = sym (steps-refused x e)

  pub plan_refused : (x : Refusal) → judge_request r rows ≡ Err x → Err x ≡ plan_of r rows
  unfolding plan_of
  plan_refused x e = sym (rw e)

  pub plan_unstepped : (x : Refusal) → steps_of r.grid rows r.window r.bounds ≡ Err x → Err x ≡ plan_of r rows
  plan_unstepped x e = plan_refused x (steps-refused x e)

  module _ (s : Steps) (d : steps_of r.grid rows r.window r.bounds ≡ Ok s) where
    let_pass : judge_window r.grid rows r.window r.bounds ≡ Ok tt
    let_pass = steps_passed r.grid rows r.window r.bounds s d

    passes : WindowPasses (on_grid r.grid rows r.window r.bounds)
    passes = passed r.grid rows r.window r.bounds let_pass

    pub few_dimensions : dims_of r.grid ≤ 4
    few_dimensions = few_dims (dims_of r.grid) (ground_of r.grid rows) (ground_dims r.grid rows) passes.grid

    -- What judging answers behind the steps.
    pub verdict_is : judge_behind r.kernel (has_centre (dims_of r.grid) r.window) s.total ≡ judge_request r rows
    verdict_is =
        ap (λ (b : Bool). judge_behind r.kernel b s.total) (has_centre_is (dims_of r.grid) r.window few_dimensions (few_references r.window.count passes.count))
        ∙ sym (judged_by_steps r rows ∙ rw d)

    pub planned_by : judge_request r rows ≡ Ok tt → (c : Chain) → c ≡ chain_by r.grid r.bounds r.kernel s → Ok c ≡ plan_of r rows
    planned_by e c f =
        ap Ok (f ∙ ap (chain_by r.grid r.bounds r.kernel) (steps_given r.grid rows r.window r.bounds let_pass s d) ∙ sym (chain_by_steps r rows let_pass))
        ∙ sym (plan_taken r rows e)
