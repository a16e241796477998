-- What 3 and 4, where they pass, say of a grid and a window.
use Prim.Native.Nat.{ℕ, zero, suc, ◌<◌, ◌≤◌}
use mathlib.Core.Bool.{false, ◌||◌}
use mathlib.Core.Path.{◌≡◌}
use native.Mathlib.Omega.{arith}
use lib.Dec.{eqb, ltb}
use borrow.Author.Tests.{eqb-false, ltb-false}
use Rattle.model.specs.Lists.{tabulate, any}
use Rattle.model.specs.Geometry.{cell_count}
use Rattle.model.specs.Grounds.Ground.{rectangle}
use Rattle.model.specs.Values.{sizes_of}
use Rattle.grid_laws.proofs.Tests.{neither}
use Rattle.grid_laws.proofs.ChainLaws.{sizes_count}
use Rattle.grid_laws.proofs.CheckLaws.{few_dims}
use Rattle.grid_laws.proofs.CheckLaws as counts
use Rattle.model.specs.Judging.{most_cells, bad_dims, bad_sizes, bad_grid, bad_count}
use Rattle.model.specs.declared.Grid.{Grid}
use Rattle.model.specs.declared.Window.{Window}
use Rattle.geometry.specs.Parts.{number_at}

-- Dimensions and sizes.
none_zero : (n : ℕ) (f : ℕ → ℕ) → any (λ s. eqb s 0) (tabulate n f) ≡ false → (d : ℕ) → d < n → 1 ≤ f d
unfolding any tabulate
none_zero zero f e d h = absurd (omega arith)
none_zero (suc n) f e zero h = omega (arith, eqb-false (f 0) 0 (neither (eqb (f 0) 0) (any (λ s. eqb s 0) (tabulate n (λ i. f (suc i)))) e).0)
none_zero (suc n) f e (suc d) h = none_zero n (λ i. f (suc i)) (neither (eqb (f 0) 0) (any (λ s. eqb s 0) (tabulate n (λ i. f (suc i)))) e).1 d (omega arith)

module _ (g : Grid) (e : bad_grid g.dims (sizes_of g) ≡ false) where
  parts : (eqb g.dims 0 || ltb 4 g.dims ≡ false) × (any (λ s. eqb s 0) (sizes_of g) || ltb most_cells (cell_count (sizes_of g)) ≡ false)
  unfolding bad_grid bad_dims bad_sizes
  parts = neither (eqb g.dims 0 || ltb 4 g.dims) (any (λ s. eqb s 0) (sizes_of g) || ltb most_cells (cell_count (sizes_of g))) e

  pub few_dimensions : g.dims ≤ 4
  few_dimensions = few_dims g.dims (rectangle (sizes_of g)) (sizes_count g) e

  pub sizes_above : (d : ℕ) → d < g.dims → 1 ≤ number_at g.sizes d
  unfolding sizes_of
  sizes_above = none_zero g.dims (number_at g.sizes) (neither (any (λ s. eqb s 0) (sizes_of g)) (ltb most_cells (cell_count (sizes_of g))) parts.1).0

  pub few_cells : cell_count (sizes_of g) ≤ most_cells
  few_cells = ltb-false most_cells (cell_count (sizes_of g)) (neither (any (λ s. eqb s 0) (sizes_of g)) (ltb most_cells (cell_count (sizes_of g))) parts.1).1

-- References.
pub some_references : (w : Window) → bad_count w.count ≡ false → 0 < w.count
some_references w e = counts.some_references w.count e

pub few_references : (w : Window) → bad_count w.count ≡ false → w.count ≤ 32
few_references w e = counts.few_references w.count e
