-- The way from the first iteration to number j, dimension by dimension: it is the place of the iteration's indices.
use Prim.Native.Nat.{ℕ, zero, suc, ◌+◌, ◌-◌, ◌*◌, ◌/◌, ◌%◌, ◌<◌}
use mathlib.Core.List.{List, [], ◌∷◌}
use mathlib.Core.Path.{◌≡◌, refl, sym, ◌∙◌, ap, ap₂}
use native.Mathlib.Nat.{div-add-mod, mod-lt, div-one, mod-eq_of_lt, mul-add-div, mul-add-mod_self_left, div-div-eq-div-mul, div-lt_iff_lt-mul, mul_assoc, mul_comm, mul-pos, mul-one, suc_inj}
use native.Mathlib.Omega.{arith}
use lib.ListN.{length, get_or, drop}
use Rattle.model.specs.Lists.{tabulate, product}
use Rattle.model.specs.Geometry.{cell_count, place, indices}
use Rattle.model.specs.Grounds.{ground_sizes}
use Rattle.model.specs.Values.{Trimmed}
use Rattle.model.specs.Iterations.{iterations_of, extents_of}
use Rattle.grid_laws.proofs.ListLaws.{tabulate_back}
use Rattle.grid_laws.proofs.Iterations.{iterations_product, extents_count, way_below}
use Rattle.run_prepare.specs.Prepared.{number_at, walk_by, Walks, Spaced}

pub walk_none : (e s : ℕ → ℕ) (d j : ℕ) → d ≡ 0 → walk_by e s d j ≡ 0
unfolding walk_by
walk_none e s zero j h = refl
walk_none e s (suc d) j h = absurd (omega arith)

-- The last of some dimensions and those before it.
walk_more : (e s : ℕ → ℕ) (d j : ℕ) → walk_by e s (suc d) j ≡ j % e d * s d + walk_by e s d (j / e d)
unfolding walk_by
walk_more e s d j = refl

pub walk_last : (e s : ℕ → ℕ) (d j : ℕ) → 0 < d → walk_by e s d j ≡ j % e (d - 1) * s (d - 1) + walk_by e s (d - 1) (j / e (d - 1))
walk_last e s zero j h = absurd (omega arith)
walk_last e s (suc d) j h = rw (let p : suc d - 1 ≡ d = omega arith in p) (walk_more e s d j)

-- A number by two factors: rest and quotient by one come from the rest by the product.
module _ (p a j : ℕ) where
  whole : a * (p * (j / (p * a))) + j % (p * a) ≡ j
  whole = ap (λ (x : ℕ). x + j % (p * a)) (sym (mul_assoc a p (j / (p * a))) ∙ ap (λ (x : ℕ). x * (j / (p * a))) (mul_comm a p)) ∙ div-add-mod j (p * a)

  rest_of_rest : j % (p * a) % a ≡ j % a
  rest_of_rest = sym (mul-add-mod_self_left a (p * (j / (p * a))) (j % (p * a))) ∙ ap (λ (x : ℕ). x % a) whole

  quotient_of_rest : 0 < a → 0 < p → j % (p * a) / a ≡ j / a % p
  quotient_of_rest h k =
      let small : j % (p * a) / a < p = (div-lt_iff_lt-mul h).1 (mod-lt j (mul-pos k h)) in
      sym (mod-eq_of_lt small) ∙ sym (mul-add-mod_self_left p (j / (p * a)) (j % (p * a) / a))
      ∙ ap (λ (x : ℕ). x % p) (sym (mul-add-div h (p * (j / (p * a))) (j % (p * a))) ∙ ap (λ (x : ℕ). x / a) whole)

product_last : (n : ℕ) (e : ℕ → ℕ) → product (tabulate (suc n) e) ≡ product (tabulate n e) * e n
unfolding product tabulate
product_last zero e = omega arith
product_last (suc n) e = ap (◌*◌ (e 0)) (product_last n (λ i. e (suc i))) ∙ sym (mul_assoc (e 0) (product (tabulate n (λ i. e (suc i)))) (e (suc n)))

product_none : (e : ℕ → ℕ) → product (tabulate 0 e) ≡ 1
unfolding product tabulate
product_none e = refl

factors_above_0 : (a b : ℕ) → 0 < a * b → (0 < a) × (0 < b)
factors_above_0 zero b h = absurd (omega arith)
factors_above_0 (suc a) zero h = absurd (omega arith)
factors_above_0 (suc a) (suc b) h = (omega arith, omega arith)

-- The first of some dimensions and those behind it. `p`: how many indices those behind it make.
walk_first : (n : ℕ) (e s : ℕ → ℕ) (j p : ℕ) → p ≡ product (tabulate n (λ i. e (suc i))) → j < e 0 * p
    → walk_by e s (suc n) j ≡ j / p * s 0 + walk_by (λ i. e (suc i)) (λ i. s (suc i)) n (j % p)
walk_first zero e s j p g h =
    let one : p ≡ 1 = g ∙ product_none (λ i. e (suc i)) in
    let small : j < e 0 = rw (← mul-one (e 0), ← one) h in
    walk_more e s 0 j
    ∙ ap₂ (λ (x y : ℕ). x * s 0 + y) (mod-eq_of_lt small ∙ sym (div-one j) ∙ ap (◌/◌ j) (sym one))
    (walk_none e s 0 (j / e 0) refl ∙ sym (walk_none (λ i. e (suc i)) (λ i. s (suc i)) 0 (j % p) refl))
walk_first (suc n) e s j p g h =
    let q = product (tabulate n (λ i. e (suc i))) in
    let a = e (suc n) in
    let split : p ≡ q * a = g ∙ product_last n (λ i. e (suc i)) in
    let some = factors_above_0 q a (rw (← split) (factors_above_0 (e 0) p (omega arith)).1) in
    let below : j < e 0 * q * a = rw (mul_assoc (e 0) q a, ← split) h in
    let quotient : j / a / q ≡ j / p = div-div-eq-div-mul j a q ∙ ap (◌/◌ j) (mul_comm a q ∙ sym split) in
    let rest : j % a ≡ j % p % a = sym (ap (λ (x : ℕ). j % x % a) split ∙ rest_of_rest q a j) in
    let behind : j / a % q ≡ j % p / a = sym (ap (λ (x : ℕ). j % x / a) split ∙ quotient_of_rest q a j some.1 some.0) in
    let before = walk_first n e s (j / a) q refl ((div-lt_iff_lt-mul some.1).1 below) in
    let w : ℕ → ℕ = walk_by (λ i. e (suc i)) (λ i. s (suc i)) n in
    omega (
      arith,
      walk_more e s (suc n) j,
      walk_more (λ i. e (suc i)) (λ i. s (suc i)) n (j % p),
      before,
      ap (λ (x : ℕ). x * s 0) quotient,
      ap (λ (x : ℕ). x * s (suc n)) rest,
      ap w behind,
    )

walk_place : (sizes es : List ℕ) (j : ℕ) → length sizes ≡ length es → j < product es
    → walk_by (λ d. get_or es d 0) (λ d. cell_count (drop (suc d) sizes)) (length es) j ≡ place sizes (indices es j)
unfolding product place indices
walk_place [] [] j g h = walk_none _ _ 0 j refl
walk_place [] (e ∷ es) j g h = absurd (omega arith)
walk_place (s ∷ ss) [] j g h = absurd (omega arith)
walk_place (s ∷ ss) (e ∷ es) j g h =
    walk_first (length es) (λ d. get_or (e ∷ es) d 0) (λ d. cell_count (drop (suc d) (s ∷ ss))) j (product es)
    (sym (ap product (tabulate_back 0 es (length es) _ refl (λ _ _. refl)))) h
    ∙ ap (◌+◌ (j / product es * cell_count ss))
    (walk_place ss es (j % product es) (suc_inj g) (mod-lt j (factors_above_0 e (product es) (omega arith)).1))

walk_same : (n : ℕ) (e s f r : ℕ → ℕ) (j : ℕ) → ((d : ℕ) → d < n → e d ≡ f d) → ((d : ℕ) → d < n → s d ≡ r d) → walk_by e s n j ≡ walk_by f r n j
walk_same zero e s f r j p q = walk_none e s 0 j refl ∙ sym (walk_none f r 0 j refl)
walk_same (suc n) e s f r j p q =
    walk_more e s n j
    ∙ ap₂ ◌+◌ (ap₂ (λ (x y : ℕ). j % x * y) (p n (omega arith)) (q n (omega arith)))
    (ap (λ (x : ℕ). walk_by e s n (j / x)) (p n (omega arith)) ∙ walk_same n e s f r (j / f n) (λ d h. p d (omega arith)) (λ d h. q d (omega arith)))
    ∙ sym (walk_more f r n j)

-- Where there is an iteration no extent is 0.
some_extent : (es : List ℕ) → 0 < product es → (d : ℕ) → d < length es → 0 < get_or es d 0
unfolding product
some_extent [] h d l = absurd (omega arith)
some_extent (e ∷ es) h zero l = (factors_above_0 e (product es) h).0
some_extent (e ∷ es) h (suc d) l = some_extent es (factors_above_0 e (product es) h).1 d (omega arith)

module _ {t : Trimmed} {dims : ℕ} {es ss : List ℕ} (spaced : Spaced t dims es ss) where
  abbrev sizes : List ℕ
  sizes = ground_sizes t.the_ground

  same_dimensions : length (extents_of t) ≡ length sizes
  same_dimensions = extents_count t spaced.fitting sizes spaced.rectangular

  dimensions : length (extents_of t) ≡ dims
  dimensions = same_dimensions ∙ spaced.dimensions

  iterations : iterations_of t ≡ product (extents_of t)
  iterations = iterations_product t spaced.fitting sizes spaced.rectangular

  -- The way to iteration j is the place of its indices.
  pub walk_is : (j : ℕ) → j < iterations_of t → walk_by (number_at es) (number_at ss) dims j ≡ place sizes (indices (extents_of t) j)
  walk_is j h =
      walk_same dims (number_at es) (number_at ss) (λ d. get_or (extents_of t) d 0) (λ d. cell_count (drop (suc d) sizes)) j spaced.extents_are spaced.strides_are
      ∙ ap (λ (n : ℕ). walk_by (λ d. get_or (extents_of t) d 0) (λ d. cell_count (drop (suc d) sizes)) n j) (sym dimensions)
      ∙ walk_place sizes (extents_of t) j (sym same_dimensions) (omega (arith, iterations))

  pub walks : (j : ℕ) → j < iterations_of t → Walks dims es ss j
  walks j h = record {
    few = spaced.few;
    some = λ d l. rw (spaced.extents_are d l) (some_extent (extents_of t) (omega (arith, iterations)) d (rw dimensions l));
    near = omega (arith, walk_is j h, way_below t spaced.fitting sizes spaced.rectangular j h, spaced.cells);
  }
