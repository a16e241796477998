-- A sum of all terms but one, a term further.
use Prim.Native.Nat.{ℕ, ◌+◌, ◌≤◌}
use mathlib.Core.Path.{◌≡◌, refl, ap, ◌∙◌}
use borrow.Author.Tests.{eq-eqb, ne_eqb}
use native.Mathlib.Numerals.{add-one}
use native.Mathlib.Omega.{arith}
use Rattle.std.specs.Prelude.{Option, unwrap_or}
use lib.Ieee.{Float, binary32, sub, mul}
use Rattle.model_run.specs.Kernels.{float, squared}
use Rattle.nested.specs.Nested.{added, sum_but}

pub square : (c v : Float) (a b : ℕ) → c ≡ float a → v ≡ float b → mul binary32 (sub binary32 c v) (sub binary32 c v) ≡ squared a b
unfolding squared
square c v a b p q = rw (p, q) refl

module _ (term : ℕ → Float) (but k : ℕ) (s : Option Float) (e : s ≡ sum_but term but k) where
  pub skipped : (next : Option Float) → k ≡ but → next ≡ s → next ≡ sum_but term but (k + 1)
  unfolding sum_but
  skipped next q n = n ∙ e ∙ rw (add-one k, eq-eqb k but q) refl

  pub one_added : (next : Option Float) (x : Float) → (k ≡ but → ⊥) → x ≡ term k → next ≡ added s x → next ≡ sum_but term but (k + 1)
  unfolding sum_but
  one_added next x q t n = n ∙ ap (λ (y : Float). added s y) t ∙ ap (λ (r : Option Float). added r (term k)) e ∙ rw (add-one k, ne_eqb k but q) refl

  pub all_added_lem : (n : ℕ) → k ≤ n → n ≤ k → unwrap_or s (float 0) ≡ unwrap_or (sum_but term but n) (float 0)
  all_added_lem n h l = let z : k ≡ n = omega arith in ap (λ (r : Option Float). unwrap_or r (float 0)) (e ∙ ap (sum_but term but) z)
