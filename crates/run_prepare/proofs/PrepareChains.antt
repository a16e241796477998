-- An accepted chain's numbers in arrays: those that say where its references read, and its capacities.
use Prim.Native.Nat.{ℕ, zero, suc, ◌-◌, ◌≤◌, ◌<◌}
use mathlib.Core.Bool.{false}
use mathlib.Core.List.{List, [], ◌∷◌}
use mathlib.Core.Path.{◌≡◌, refl, sym, ◌∙◌, ap}
use native.Mathlib.Omega.{arith}
use lib.Dec.{eqb, ltb}
use lib.ListN.{length, drop}
use borrow.Author.Tests.{ltb-false}
use Rattle.model.specs.Geometry.{cell_count}
use Rattle.model.specs.Grounds as the_ground
use Rattle.model.specs.Values.{sizes_of, ground_of, dims_of, capacities_of, capacity_of, trimmed}
use Rattle.model.specs.Iterations.{cells_of, course_of, iterations_of, extents_of, position_of, iteration_of, reads_of}
use Rattle.model.specs.Judging.{bad_dims, bad_sizes, bad_grid}
use Rattle.model.specs.declared.Chain.{Chain}
use Rattle.grid_laws.proofs.ListLaws.{get_d_tabulate}
use Rattle.grid_laws.proofs.ChainLaws.{sizes_count}
use Rattle.grid_laws.proofs.Tests.{neither}
use Rattle.grid_laws.proofs.CheckLaws.{value_passes}
use Rattle.shape.specs.declared.Shape.{Shape}
use Rattle.shape.specs.Shapes.{stride, shape_for, chain_shape}
use Rattle.run_laws.specs.Accepted.{Accepted}
use Rattle.run_laws.proofs.Accepts.{trimmed_proper, fitting_of}
use Rattle.run_prepare.specs.Prepared.{number_at, Widened, Shaped, Capped}
use Rattle.run_prepare.specs.Ready.{flattened}

module _ (c : Chain) (rows : List ℕ) (ok : Accepted (trimmed c rows)) where
  pub few_references : c.window.count ≤ 32
  unfolding trimmed
  few_references = ok.few

  pub chain_capped : (caps : List ℕ) → Widened 32 c.capacities 31 caps → Capped (trimmed c rows) c.window.count caps
  unfolding trimmed capacities_of
  chain_capped caps w = record {
    count_is = refl;
    capacities_are = λ k h. w.same k (omega (arith, few_references)) ∙ sym (get_d_tabulate (c.window.count - 1) (capacity_of c) k 0 (omega arith));
  }

stride_is : (sizes : List ℕ) (d : ℕ) → d < length sizes → stride sizes d ≡ cell_count (drop (suc d) sizes)
unfolding stride
stride_is [] d h = absurd (omega arith)
stride_is (s ∷ ss) zero h = refl
stride_is (s ∷ ss) (suc d) h = stride_is ss d (omega arith)

-- A chain, its grid taken for a rectangle.
module _ (c : Chain) (ok : Accepted (trimmed (flattened c) [])) where
  few_dimensions : c.grid.dims ≤ 4
  unfolding trimmed ground_of dims_of bad_grid bad_dims sizes_of
  few_dimensions =
      let good : bad_grid c.grid.dims (sizes_of c.grid) ≡ false = (value_passes (trimmed (flattened c) []) ok.checks).window.grid in
      let dims = (neither (bad_dims c.grid.dims) (bad_sizes (sizes_of c.grid)) good).0 in
      ltb-false 4 c.grid.dims (neither (eqb c.grid.dims 0) (ltb 4 c.grid.dims) dims).1

  -- The arrays of the window's shape on the grid, widened.
  pub chain_shaped : (shape : Shape) (es ss at : List ℕ) → shape ≡ chain_shape (flattened c) → Widened 4 shape.extents 4 es → Widened 4 shape.strides 4 ss
      → Widened 32 shape.at 32 at → Shaped (trimmed (flattened c) []) c.grid.dims c.window.count shape.cells shape.iterations es ss at
  unfolding trimmed ground_of dims_of cells_of the_ground.cell_count iterations_of extents_of course_of reads_of position_of iteration_of shape_for chain_shape
  chain_shaped shape es ss at is e s a =
      let all = sizes_count (flattened c).grid in
      let few = few_dimensions in
      let most = few_references (flattened c) [] ok in
      let sizes = sizes_of (flattened c).grid in
      record {
        counted = record {
          proper = trimmed_proper (flattened c) [];
          accepted = ok;
          count_is = refl;
          cells_are = sym (ap (λ (x : Shape). x.cells) is);
          iterations_are = sym (ap (λ (x : Shape). x.iterations) is);
        };
        spaced = record {
          fitting = fitting_of (trimmed (flattened c) []) (trimmed_proper (flattened c) []) ok;
          rectangular = refl;
          dimensions = all;
          few = few;
          cells = ok.cells;
          extents_are = λ d h. e.same d (omega arith) ∙ ap (λ (x : Shape). number_at x.extents d) is ∙ get_d_tabulate 4 _ d 0 (omega arith);
          strides_are = λ d h. s.same d (omega arith) ∙ ap (λ (x : Shape). number_at x.strides d) is ∙ get_d_tabulate 4 _ d 0 (omega arith) ∙ stride_is sizes d (omega arith);
        };
        reads_are = λ k h. a.same k (omega arith) ∙ ap (λ (x : Shape). number_at x.at k) is ∙ get_d_tabulate 32 _ k 0 (omega arith);
      }
