-- What a firing's words leave of an output.
use Prim.Native.Nat.{ℕ, ◌+◌, ◌-◌, ◌≤◌}
use mathlib.Core.List.{List, ◌++◌}
use mathlib.Core.Path.{◌≡◌, sym, ◌∙◌, ap}
use native.Mathlib.Omega.{arith}
use lib.ListN.{length, take, drop, length-append}
use lib.Seq.{sets, sets-eq, length-take-le, take_at, drop_at, drop-drop}

module _ (out vs : List ℕ) (i : ℕ) (fits : i + length vs ≤ length out) where
  front_length : length (take i out ++ vs) ≡ i + length vs
  front_length = length-append (take i out) vs ∙ ap (λ (n : ℕ). n + length vs) (length-take-le i out (omega arith))

  -- The places up to those that were written,
  pub take_written : take (i + length vs) (sets out i vs) ≡ take i out ++ vs
  take_written = ap (λ (l : List ℕ). take (i + length vs) l) (sets-eq vs out i fits) ∙ take_at (take i out ++ vs) _ (i + length vs) front_length

  -- and the later ones.
  pub drop_written : (n : ℕ) → i + length vs ≤ n → drop n (sets out i vs) ≡ drop n out
  drop_written n h =
      ap (λ (m : ℕ). drop m (sets out i vs)) e
      ∙ sym (drop-drop (n - (i + length vs)) (i + length vs) (sets out i vs))
      ∙ ap (λ (l : List ℕ). drop (n - (i + length vs)) l) (ap (λ (l : List ℕ). drop (i + length vs) l) (sets-eq vs out i fits) ∙ drop_at (take i out ++ vs) _ (i + length vs) front_length)
      ∙ drop-drop (n - (i + length vs)) (i + length vs) out
      ∙ ap (λ (m : ℕ). drop m out) (sym e)
    where
      e : n ≡ i + length vs + (n - (i + length vs))
      e = omega arith
