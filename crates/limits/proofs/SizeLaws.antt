-- 3, size by size, with the product of those before.
use Prim.Native.Nat.{ℕ, ◌+◌, ◌*◌, ◌≤◌, ◌<◌}
use mathlib.Core.Bool.{Bool, true, false, ◌||◌}
use mathlib.Core.List.{List, [], ◌∷◌}
use mathlib.Core.Path.{◌≡◌, refl, sym, ap, ◌∙◌}
use native.Mathlib.Nat.{mul_assoc, mul-pos, one-mul, mul-le-mul, mul-le-mul_left}
use native.Mathlib.Numerals.{add-one}
use native.Mathlib.Omega.{arith}
use lib.Dec.{eqb, ltb}
use lib.ListN.{length, take, drop, get_or, length-take, drop_of_length-le}
use lib.Seq.{drop-cons, get_or-take}
use borrow.Author.Tests.{eq-eqb, ne_eqb, eqb-false, lt-ltb, le-ltb, ltb-false}
use Rattle.model.specs.Lists.{product, any}
use Rattle.model.specs.Geometry.{cell_count}
use Rattle.model.specs.Values.{sizes_of}
use Rattle.model.specs.Judging.{most_cells, bad_dims, bad_sizes, bad_grid}
use Rattle.model.specs.declared.Grid.{Grid}
use Rattle.grid_laws.proofs.Tests.{neither}
use Rattle.grid_laws.proofs.ListLaws.{tabulate_back}

-- Where no size is 0 the product is not.
pub product_above : (ss : List ℕ) → any (λ s. eqb s 0) ss ≡ false → 1 ≤ product ss
unfolding any product
product_above [] e = omega arith
product_above (s ∷ ss) e =
    let (h, k) = neither (eqb s 0) (any (λ s. eqb s 0) ss) e in
    let l : 0 < s = omega (arith, eqb-false s 0 h) in
    mul-pos l (product_above ss k)

-- A size among these is 0, or they make too many cells, where `cells` have been counted in the dimensions before.
unfoldable pub bad_from : (cells : ℕ) → List ℕ → Bool
bad_from cells sizes = any (λ s. eqb s 0) sizes || ltb most_cells (cells * product sizes)

pub from_first : (sizes : List ℕ) → bad_from 1 sizes ≡ bad_sizes sizes
unfolding bad_from bad_sizes cell_count
from_first sizes = rw one-mul

size_zero : (cells s : ℕ) (ss : List ℕ) → s ≡ 0 → true ≡ bad_from cells (s ∷ ss)
unfolding bad_from any
size_zero cells s ss e = rw (eq-eqb s 0 e)

size_next : (cells s : ℕ) (ss : List ℕ) → (s ≡ 0 → ⊥) → bad_from (cells * s) ss ≡ bad_from cells (s ∷ ss)
unfolding bad_from any product
size_next cells s ss h = rw (ne_eqb s 0 h, mul_assoc)

-- No size that follows mends a count that is too large.
size_large : (cells : ℕ) (ss : List ℕ) → most_cells < cells → true ≡ bad_from cells ss
unfolding bad_from
size_large cells ss h = go ss (any (λ s. eqb s 0) ss) refl
  where
    go : (ss : List ℕ) (b : Bool) → any (λ s. eqb s 0) ss ≡ b → true ≡ b || ltb most_cells (cells * product ss)
    go ss true e = refl
    go ss false e = sym (lt-ltb most_cells (cells * product ss) (omega (arith, mul-le-mul_left cells (product_above ss e))))

size_none : (cells : ℕ) → cells ≤ most_cells → false ≡ bad_from cells []
unfolding bad_from any product
size_none cells h = sym (le-ltb most_cells (cells * 1) (omega arith))

-- A count that is not too large, times a size, fits 64 bits.
pub size_fits : (cells s : ℕ) → cells ≤ most_cells → s < 4294967296 → cells * s < 18446744073709551616
size_fits cells s h k = omega (arith, mul-le-mul {n₁ = cells} {m₁ = s} {n₂ = most_cells} {m₂ = 4294967295} h (omega arith))

-- From place d of the sizes on.
module _ (cells d : ℕ) (ss : List ℕ) where
  pub none_left : cells ≤ most_cells → length ss ≤ d → false ≡ bad_from cells (drop d ss)
  none_left h l = rw (drop_of_length-le ss {i = d} l) (size_none cells h)

  module _ (s : ℕ) (more : d < length ss) (is : s ≡ get_or ss d 0) where
    here : bad_from cells (s ∷ drop (d + 1) ss) ≡ bad_from cells (drop d ss)
    here = rw (is, add-one) (ap (bad_from cells) (sym (drop-cons ss d 0 more)))

    pub zero_here : s ≡ 0 → true ≡ bad_from cells (drop d ss)
    zero_here e = size_zero cells s _ e ∙ here

    module _ (some : s ≡ 0 → ⊥) where
      pub onward : bad_from (cells * s) (drop (d + 1) ss) ≡ bad_from cells (drop d ss)
      onward = size_next cells s _ some ∙ here

      pub many_here : most_cells < cells * s → true ≡ bad_from cells (drop d ss)
      many_here h = size_large (cells * s) _ h ∙ onward

-- The whole check.
pub few_dimensions : (d : ℕ) → bad_dims d ≡ false → d ≤ 4
unfolding bad_dims
few_dimensions d e = ltb-false 4 d (neither (eqb d 0) (ltb 4 d) e).1

module _ (g : Grid) where
  pub bad_dimensions : bad_dims g.dims ≡ true → true ≡ bad_grid g.dims (sizes_of g)
  unfolding bad_grid
  bad_dimensions e = rw e

  pub by_sizes : length g.sizes ≡ 4 → bad_dims g.dims ≡ false → bad_sizes (take g.dims g.sizes) ≡ bad_grid g.dims (sizes_of g)
  unfolding bad_grid sizes_of
  by_sizes long e =
      let h = few_dimensions g.dims e in
      rw (e, tabulate_back 0 (take g.dims g.sizes) g.dims (λ d. get_or g.sizes d 0) (simp length-take (omega arith)) (λ k l. sym (get_or-take _ _ _ _ l)))
