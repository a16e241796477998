-- Laws of products and sums over the dimensions, one after the other.
use Prim.Native.Nat.{ℕ, zero, suc, ◌+◌, ◌-◌, ◌*◌, ◌<◌, ◌≤◌}
use mathlib.Core.Path.{◌≡◌, refl, sym, ◌∙◌, ap, ap₂}
use native.Mathlib.Decide.{dec_lt}
use native.Mathlib.Nat.{mul_comm, mul-le-mul, mul-le-mul_right}
use native.Mathlib.Omega.{arith}
use Rattle.model.specs.Lists.{tabulate, sum, product}
use Rattle.model.specs.Geometry.{cell_count, place}
use Rattle.grid_laws.proofs.ListLaws.{tabulate_same}
use Rattle.geometry.specs.Parts.{part}
use Rattle.shape.specs.Shapes.{stride}
use Rattle.geometry.proofs.PartLaws.{part_none, part_more, part_all, part_shift}

module _ (f : ℕ → ℕ) where
  pub product_none : (d to : ℕ) → to ≤ d → 1 ≡ product (part f d to)
  unfolding product
  product_none d to h = rw (part_none f d to h)

  product_more : (d to : ℕ) → d < to → product (part f d to) ≡ f d * product (part f (d + 1) to)
  unfolding product
  product_more d to h = rw (part_more f d to h)

  -- One dimension further to the front.
  pub product_back : (d to p : ℕ) → 0 < d → d ≤ to → p ≡ product (part f d to) → p * f (d - 1) ≡ product (part f (d - 1) to)
  product_back d to p h k e =
      mul_comm p (f (d - 1)) ∙ ap (◌*◌ (f (d - 1))) (e ∙ ap (λ (i : ℕ). product (part f i to)) (omega arith)) ∙ sym (product_more (d - 1) to (omega arith))

  -- Where no number is 0 a product of the last ones is at most that of all.
  pub product_of_last : (to : ℕ) → ((i : ℕ) → i < to → 1 ≤ f i) → (d : ℕ) → product (part f d to) ≤ product (tabulate to f)
  product_of_last to h zero = rw (part_all f to) (omega arith)
  product_of_last to h (suc d) = go (dec_lt d to) (product_of_last to h d)
    where
      next : product (part f (d + 1) to) ≡ product (part f (suc d) to)
      next = ap (λ (i : ℕ). product (part f i to)) (omega arith)

      go : Dec (d < to) → product (part f d to) ≤ product (tabulate to f) → product (part f (suc d) to) ≤ product (tabulate to f)
      go (yes l) b = omega (arith, product_more d to l, next, mul-le-mul_right (product (part f (d + 1) to)) (h d l))
      go (no l) b = omega (arith, product_none d to (omega arith), product_none (suc d) to (omega arith))

  pub sum_start : (to : ℕ) → 0 + sum (part f 0 to) ≡ sum (tabulate to f)
  sum_start to = rw (part_all f to) (omega arith)

  pub sum_on : (s d to : ℕ) → d < to → s + f d + sum (part f (d + 1) to) ≡ s + sum (part f d to)
  unfolding sum
  sum_on s d to h = rw (part_more f d to h) (omega arith)

  pub sum_end : (s d to : ℕ) → to ≤ d → s ≡ s + sum (part f d to)
  unfolding sum
  sum_end s d to h = rw (part_none f d to h) (omega arith)

-- Numbers that are at most others have a product at most theirs.
product_at_most : (n : ℕ) (f g : ℕ → ℕ) → ((i : ℕ) → i < n → f i ≤ g i) → product (tabulate n f) ≤ product (tabulate n g)
unfolding tabulate product
product_at_most zero f g h = omega arith
product_at_most (suc n) f g h = mul-le-mul (h 0 (omega arith)) (product_at_most n (λ i. f (suc i)) (λ i. g (suc i)) (λ i k. h (suc i) (omega arith)))

pub part_at_most : (f g : ℕ → ℕ) (d to : ℕ) → ((i : ℕ) → i < to → f i ≤ g i) → product (part f d to) ≤ product (part g d to)
unfolding part
part_at_most f g d to h = product_at_most (to - d) (λ i. f (d + i)) (λ i. g (d + i)) (λ i k. h (d + i) (omega arith))

-- A dimension's stride is the product of the sizes behind it, and there is none past the last.
pub stride_behind : (n : ℕ) (s : ℕ → ℕ) (d : ℕ) → d < n → stride (tabulate n s) d ≡ product (part s (d + 1) n)
unfolding stride tabulate cell_count
stride_behind zero s d h = absurd (omega arith)
stride_behind (suc n) s zero h = sym (ap product (part_shift s 0 n ∙ part_all (λ i. s (suc i)) n))
stride_behind (suc n) s (suc d) h =
    stride_behind n (λ i. s (suc i)) d (omega arith) ∙ sym (ap product (ap (λ (i : ℕ). part s i (suc n)) (omega arith) ∙ part_shift s (d + 1) n))

pub stride_past : (n : ℕ) (s : ℕ → ℕ) (d : ℕ) → n ≤ d → stride (tabulate n s) d ≡ 0
unfolding stride tabulate
stride_past zero s d h = refl
stride_past (suc n) s zero h = absurd (omega arith)
stride_past (suc n) s (suc d) h = stride_past n (λ i. s (suc i)) d (omega arith)

-- A place is the sum of the indices, each times its stride.
pub place_by_strides : (n : ℕ) (s x : ℕ → ℕ) → place (tabulate n s) (tabulate n x) ≡ sum (tabulate n (λ d. x d * product (part s (d + 1) n)))
unfolding place tabulate sum cell_count
place_by_strides zero s x = refl
place_by_strides (suc n) s x =
    ap₂ ◌+◌ (ap (◌*◌ (x 0)) (sym (ap product (part_shift s 0 n ∙ part_all (λ i. s (suc i)) n))))
    (place_by_strides n (λ i. s (suc i)) (λ i. x (suc i)) ∙ ap sum (tabulate_same n _ _ (λ d h. ap (◌*◌ (x (suc d))) (ap product (shifted d)))))
  where
    shifted : (d : ℕ) → part (λ i. s (suc i)) (d + 1) n ≡ part s (suc d + 1) (suc n)
    shifted d = sym (ap (λ (i : ℕ). part s i (suc n)) (omega arith) ∙ part_shift s (d + 1) n)
