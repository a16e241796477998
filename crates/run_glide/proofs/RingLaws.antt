-- Ring places as lists, and by the index.
use Prim.Native.Nat.{ℕ, zero, suc, ◌+◌, ◌-◌, ◌≤◌, ◌<◌}
use mathlib.Core.List.{List, [], ◌∷◌}
use mathlib.Core.Path.{◌≡◌, refl, sym, ◌∙◌, ap}
use native.Mathlib.Nat.{zero-add}
use native.Mathlib.Omega.{arith}
use lib.ListN.{length, get_or, take}
use lib.Seq.{ext_get_or, get_or-take, length-take-le}
use Rattle.loop_laws.specs.Passes.{of, Aligned, place_of, gets, puts}
use Rattle.loop_laws.specs.Sweeps.{Ringed}

-- A FIFO between aligned filters has a place.
pub caps_at : (w cap : ℕ → ℕ) (k i : ℕ) (ps : List ℕ) → suc i < length ps → Aligned w cap k ps → 0 < cap (k + i)
caps_at w cap k i [] h a = absurd (omega arith)
caps_at w cap k i (p ∷ []) h a = absurd (omega arith)
caps_at w cap k zero (p ∷ q ∷ qs) h a = let z : k + 0 ≡ k = omega arith in rw z (omega arith)
caps_at w cap k (suc i) (p ∷ q ∷ qs) h a = let z : k + suc i ≡ suc k + i = omega arith in rw z (caps_at w cap (suc k) i (q ∷ qs) (omega arith) a.3)

module _ (base cap : ℕ → ℕ) where
  length_puts : (k : ℕ) (p : ℕ) (ps : List ℕ) → length (puts base cap k (p ∷ ps)) ≡ length ps
  unfolding puts
  length_puts k p [] = refl
  length_puts k p (q ∷ qs) = ap suc (length_puts (suc k) q qs)

  length_gets : (k : ℕ) (p : ℕ) (ps : List ℕ) → length (gets base cap k (p ∷ ps)) ≡ length ps
  unfolding gets
  length_gets k p [] = refl
  length_gets k p (q ∷ qs) = ap suc (length_gets (suc k) q qs)

  pub puts_at : (k i : ℕ) (ps : List ℕ) → suc i < length ps → get_or (puts base cap k ps) i 0 ≡ place_of base cap (k + i) (get_or ps i 0)
  unfolding puts
  puts_at k i [] h = absurd (omega arith)
  puts_at k i (p ∷ []) h = absurd (omega arith)
  puts_at k zero (p ∷ q ∷ qs) h = let z : k + 0 ≡ k = omega arith in rw z
  puts_at k (suc i) (p ∷ q ∷ qs) h = let z : k + suc i ≡ suc k + i = omega arith in rw z (puts_at (suc k) i (q ∷ qs) (omega arith))

  pub gets_at : (k i : ℕ) (ps : List ℕ) → suc i < length ps → get_or (gets base cap k ps) i 0 ≡ place_of base cap (k + i) (get_or ps (suc i) 0)
  unfolding gets
  gets_at k i [] h = absurd (omega arith)
  gets_at k i (p ∷ []) h = absurd (omega arith)
  gets_at k zero (p ∷ q ∷ qs) h = let z : k + 0 ≡ k = omega arith in rw z
  gets_at k (suc i) (p ∷ q ∷ qs) h = let z : k + suc i ≡ suc k + i = omega arith in rw z (gets_at (suc k) i (q ∷ qs) (omega arith))

pub ringed_puts : (n : ℕ) (bases caps ps to gs : List ℕ) → 0 < n → n ≤ 32 → n ≤ length ps → length to ≡ 32 → ((k : ℕ) → suc k < n → 0 < get_or caps k 0) → Ringed n bases caps ps to gs
    → take (n - 1) to ≡ puts (of bases) (of caps) 0 (take n ps)
ringed_puts n bases caps ps to gs s f l t z a =
    let l₁ : length (take (n - 1) to) ≡ n - 1 = length-take-le (n - 1) to (omega arith) in
    let l₂ : length (take n ps) ≡ n = length-take-le n ps l in
    ext_get_or 0 (take (n - 1) to) (puts (of bases) (of caps) 0 (take n ps)) (l₁ ∙ lens (take n ps) l₂)
    (λ i g. let k : i < n - 1 = omega arith in get_or-take (n - 1) to i 0 k ∙ (a i (omega arith) (z i (omega arith))).0
    ∙ sym (puts_at (of bases) (of caps) 0 i (take n ps) (omega arith) ∙ rw (zero-add, get_or-take n ps i 0 (omega arith))))
  where
    lens : (l : List ℕ) → length l ≡ n → n - 1 ≡ length (puts (of bases) (of caps) 0 l)
    lens [] e = absurd (omega arith)
    lens (p ∷ l) e = omega (arith, length_puts (of bases) (of caps) 0 p l)

pub ringed_gets : (n : ℕ) (bases caps ps us to : List ℕ) → 0 < n → n ≤ 32 → n ≤ length ps → length to ≡ 32 → ((k : ℕ) → suc k < n → 0 < get_or caps k 0) → Ringed n bases caps ps us to
    → take (n - 1) to ≡ gets (of bases) (of caps) 0 (take n ps)
ringed_gets n bases caps ps us to s f l t z a =
    let l₁ : length (take (n - 1) to) ≡ n - 1 = length-take-le (n - 1) to (omega arith) in
    let l₂ : length (take n ps) ≡ n = length-take-le n ps l in
    ext_get_or 0 (take (n - 1) to) (gets (of bases) (of caps) 0 (take n ps)) (l₁ ∙ lens (take n ps) l₂)
    (λ i g. let k : i < n - 1 = omega arith in get_or-take (n - 1) to i 0 k ∙ (a i (omega arith) (z i (omega arith))).1
    ∙ sym (gets_at (of bases) (of caps) 0 i (take n ps) (omega arith) ∙ rw (zero-add, get_or-take n ps (suc i) 0 (omega arith))))
  where
    lens : (l : List ℕ) → length l ≡ n → n - 1 ≡ length (gets (of bases) (of caps) 0 l)
    lens [] e = absurd (omega arith)
    lens (p ∷ l) e = omega (arith, length_gets (of bases) (of caps) 0 p l)
