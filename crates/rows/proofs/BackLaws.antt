-- Laws of going over numbered things one by one.
use Prim.Native.Nat.{ℕ, ◌+◌, ◌-◌, ◌≤◌, ◌<◌, min, max}
use mathlib.Core.List.{◌∷◌}
use mathlib.Core.Path.{◌≡◌, ◌∙◌, ap}
use native.Mathlib.Omega.{arith}
use Rattle.model.specs.Lists.{tabulate, sum, greatest}
use Rattle.model.specs.Courses.{smallest}
use Rattle.geometry.specs.Parts.{part}
use Rattle.geometry.proofs.PartLaws.{part_none, part_more, part_all}

module _ {A : Type 0} (f : ℕ → A) where
  pub part_back : (k n : ℕ) → 0 < k → k ≤ n → part f (k - 1) n ≡ f (k - 1) ∷ part f k n
  part_back k n some h = part_more f (k - 1) n (omega arith) ∙ ap (λ (i : ℕ). f (k - 1) ∷ part f i n) (omega arith)

module _ (f : ℕ → ℕ) where
  -- The greatest.
  pub greatest_none : (n : ℕ) → 0 ≡ greatest (part f n n)
  unfolding greatest
  greatest_none n = rw (part_none f n n (omega arith))

  pub greatest_last : (n : ℕ) → 0 < n → f (n - 1) ≡ greatest (part f (n - 1) n)
  unfolding greatest
  greatest_last n some = rw (part_back f n n some (omega arith), part_none f n n (omega arith)) (omega arith)

  pub greatest_back : (k n : ℕ) → 0 < k → k ≤ n → max (f (k - 1)) (greatest (part f k n)) ≡ greatest (part f (k - 1) n)
  unfolding greatest
  greatest_back k n some h = rw (part_back f k n some h)

  pub greatest_all : (k n : ℕ) → k ≡ 0 → greatest (part f k n) ≡ greatest (tabulate n f)
  greatest_all k n e = rw e (ap greatest (part_all f n))

  -- The least.
  pub smallest_last : (n : ℕ) → 0 < n → f (n - 1) ≡ smallest (part f (n - 1) n)
  unfolding smallest
  smallest_last n some = rw (part_back f n n some (omega arith), part_none f n n (omega arith))

  pub smallest_back : (k n : ℕ) → 0 < k → k < n → min (f (k - 1)) (smallest (part f k n)) ≡ smallest (part f (k - 1) n)
  unfolding smallest
  smallest_back k n some h = rw (part_back f k n some (omega arith), part_more f k n h)

  pub smallest_all : (k n : ℕ) → k ≡ 0 → smallest (part f k n) ≡ smallest (tabulate n f)
  smallest_all k n e = rw e (ap smallest (part_all f n))

  -- The sum.
  pub sum_start : (n : ℕ) → 0 + sum (part f 0 n) ≡ sum (tabulate n f)
  sum_start n = rw (part_all f n) (omega arith)

  pub sum_on : (s k n : ℕ) → k < n → s + f k + sum (part f (k + 1) n) ≡ s + sum (part f k n)
  unfolding sum
  sum_on s k n h = rw (part_more f k n h) (omega arith)

  pub sum_end : (s k n : ℕ) → n ≤ k → s ≡ s + sum (part f k n)
  unfolding sum
  sum_end s k n h = rw (part_none f k n h) (omega arith)
