-- Laws of lists that are given entry by entry.
use Prim.Native.Nat.{ℕ, zero, suc, ◌+◌, ◌-◌, ◌≤◌, ◌<◌}
use mathlib.Core.List.{List, [], ◌∷◌, ◌++◌}
use mathlib.Core.Path.{◌≡◌, refl, sym, ◌∙◌, ap, ap₂}
use native.Mathlib.Nat.{suc_inj}
use native.Mathlib.Omega.{arith}
use Rattle.model.specs.Lists.{tabulate}
use Rattle.grid_laws.proofs.ListLaws.{tabulate_same}
use Rattle.geometry.specs.Parts.{part}

module _ {A : Type 0} where
  -- Lists with the same entries are the same.
  pub part_none : (f : ℕ → A) (from to : ℕ) → to ≤ from → part f from to ≡ []
  unfolding part tabulate
  part_none f from to h = go (to - from) (omega arith)
    where
      go : (n : ℕ) → n ≡ 0 → tabulate n (λ i. f (from + i)) ≡ []
      go zero e = refl
      go (suc n) e = absurd (omega arith)

  pub part_more : (f : ℕ → A) (from to : ℕ) → from < to → part f from to ≡ f from ∷ part f (from + 1) to
  unfolding part tabulate
  part_more f from to h = go (to - from) (to - (from + 1)) (omega arith)
    where
      go : (n m : ℕ) → n ≡ suc m → tabulate n (λ i. f (from + i)) ≡ f from ∷ tabulate m (λ i. f (from + 1 + i))
      go zero m e = absurd (omega arith)
      go (suc n) m e =
          ap₂ ◌∷◌ (ap f (omega arith))
          (tabulate_same n (λ i. f (from + suc i)) (λ i. f (from + 1 + i)) (λ i h. ap f (omega arith))
          ∙ ap (λ (k : ℕ). tabulate k (λ i. f (from + 1 + i))) (suc_inj e))

  pub part_all : (f : ℕ → A) (to : ℕ) → part f 0 to ≡ tabulate to f
  unfolding part
  part_all f to = tabulate_same (to - 0) (λ i. f (0 + i)) f (λ i h. ap f (omega arith)) ∙ ap (λ (k : ℕ). tabulate k f) (omega arith)

  pub part_shift : (f : ℕ → A) (from to : ℕ) → part f (suc from) (suc to) ≡ part (λ i. f (suc i)) from to
  unfolding part
  part_shift f from to =
      tabulate_same (suc to - suc from) (λ i. f (suc from + i)) (λ i. f (suc (from + i))) (λ i h. ap f (omega arith))
      ∙ ap (λ (n : ℕ). tabulate n (λ i. f (suc (from + i)))) (omega arith)

  -- Parts with the same entries are the same.
  pub part_same : (f g : ℕ → A) (from to : ℕ) → ((i : ℕ) → from ≤ i → i < to → f i ≡ g i) → part f from to ≡ part g from to
  unfolding part
  part_same f g from to e = tabulate_same (to - from) (λ i. f (from + i)) (λ i. g (from + i)) (λ i h. e (from + i) (omega arith) (omega arith))

  -- A part is two parts, one behind the other.
  pub part_split : (f : ℕ → A) (from mid to : ℕ) → from ≤ mid → mid ≤ to → part f from to ≡ part f from mid ++ part f mid to
  part_split f from mid to h k = go (mid - from) from (omega arith)
    where
      go : (n from : ℕ) → mid ≡ from + n → part f from to ≡ part f from mid ++ part f mid to
      go zero from e = rw (part_none f from mid (omega arith)) (ap (λ (i : ℕ). part f i to) (omega arith))
      go (suc n) from e =
          part_more f from to (omega arith) ∙ ap (◌∷◌ (f from)) (go n (from + 1) (omega arith))
          ∙ ap (λ (xs : List A). xs ++ part f mid to) (sym (part_more f from mid (omega arith)))
