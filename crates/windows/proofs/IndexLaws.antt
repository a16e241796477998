-- Laws of an index counted from the first iteration.
use Prim.Native.Nat.{ℕ, suc, ◌≤◌, ◌<◌}
use mathlib.Core.Bool.{Bool, true, false, true≢false}
use mathlib.Core.Path.{◌≡◌, refl, sym, ◌∙◌, ap}
use native.Mathlib.Decide.{dec_lt}
use native.Mathlib.Omega.{arith}
use lib.Dec.{ltb}
use lib.IntN.{ℤ, pos, negsuc, neg_ℤ, ◌+ℤ◌, +ℤ-neg_ℤ_cancel, -ℤ-+ℤ_cancel}
use lib.Signed.{mag, lt_z, le_z}
use mir.Syntax.{w32}
use mir.Val.{to_z, of_z}
use mir.Facts.{to_z-of_z}
use borrow.Author.Tests.{ltb-true, leb-true, leb-false, lt-ltb, le-ltb}
use Rattle.model.specs.Vectors.{above}
use Rattle.grid_laws.proofs.IntegerLaws.{sub_small, sub_large, above_back, sum_above, sum_at_least}
use Rattle.windows.specs.Lows.{index_in}

abbrev not_negative : ℤ → Bool
not_negative (pos n) = true
not_negative (negsuc n) = false

-- An index below the extent is what it lies above the first iteration's.
pub index_inside : (x low : ℤ) (e : ℕ) → index_in x low e < e → (le_z (neg_ℤ low) x ≡ true) × (above x (neg_ℤ low) < e) × (index_in x low e ≡ above x (neg_ℤ low))
unfolding index_in
index_inside x low e h = go (le_z (neg_ℤ low) x) (ltb (above x (neg_ℤ low)) e) refl refl
  where
    go : (s t : Bool) → le_z (neg_ℤ low) x ≡ s → ltb (above x (neg_ℤ low)) e ≡ t → (le_z (neg_ℤ low) x ≡ true) × (above x (neg_ℤ low) < e) × (index_in x low e ≡ above x (neg_ℤ low))
    go true true p q = (p, ltb-true _ _ q, rw (p, q))
    go true false p q = absurd (omega (arith, rw (p, q) at h))
    go false t p q = absurd (omega (arith, rw p at h))

pub inside_index : (x low : ℤ) (e : ℕ) → le_z (neg_ℤ low) x ≡ true → above x (neg_ℤ low) < e → index_in x low e ≡ above x (neg_ℤ low)
unfolding index_in
inside_index x low e p h = rw (p, lt-ltb (above x (neg_ℤ low)) e h)

-- An index is read back from its bits.
pub index_back : (x : ℤ) → mag x < 2147483648 → to_z w32 (of_z w32 x) ≡ x
index_back x h = to_z-of_z {w = w32} {z = x} (record { sfits = h })

-- An index of 32 bits and a low of 16 add up to what 64 bits hold.
pub small_sum : (x low : ℤ) → mag x < 2147483648 → mag low < 32768 → mag (x +ℤ low) < 9223372036854775808
small_sum (pos a) (pos b) h k = omega arith
small_sum (pos a) (negsuc b) h k = go (dec_lt a (suc b))
  where
    go : Dec (a < suc b) → mag (pos a +ℤ negsuc b) < 9223372036854775808
    go (yes d) = rw (sub_small a (suc b) d) (omega arith)
    go (no d) = rw (sub_large a (suc b) (omega arith)) (omega arith)
small_sum (negsuc a) (pos b) h k = go (dec_lt b (suc a))
  where
    go : Dec (b < suc a) → mag (negsuc a +ℤ pos b) < 9223372036854775808
    go (yes d) = rw (sub_small b (suc a) d) (omega arith)
    go (no d) = rw (sub_large b (suc a) (omega arith)) (omega arith)
small_sum (negsuc a) (negsuc b) h k = omega arith

-- An index is at most the extent.
pub index_small : (x low : ℤ) (e : ℕ) → index_in x low e ≤ e
unfolding index_in
index_small x low e = go (le_z (neg_ℤ low) x) (ltb (above x (neg_ℤ low)) e) refl refl
  where
    go : (s t : Bool) → le_z (neg_ℤ low) x ≡ s → ltb (above x (neg_ℤ low)) e ≡ t → index_in x low e ≤ e
    go true true p q = rw (p, q) (omega (arith, ltb-true (above x (neg_ℤ low)) e q))
    go true false p q = rw (p, q) (omega arith)
    go false t p q = rw p (omega arith)

-- What index and low add up to: a number that is not negative is how far the index lies above the first iteration's.
sum_inside : (x low : ℤ) (m : ℕ) → x +ℤ low ≡ pos m → (le_z (neg_ℤ low) x ≡ true) × (above x (neg_ℤ low) ≡ m)
sum_inside x low m e =
    let d : x ≡ pos m +ℤ neg_ℤ low = sym (+ℤ-neg_ℤ_cancel x low) ∙ ap (λ (z : ℤ). z +ℤ neg_ℤ low) e in
    rw d (sum_at_least m (neg_ℤ low), sum_above m (neg_ℤ low))

sum_outside : (x low : ℤ) (m : ℕ) → x +ℤ low ≡ negsuc m → le_z (neg_ℤ low) x ≡ false
sum_outside x low m e = go (le_z (neg_ℤ low) x) refl
  where
    back : le_z (neg_ℤ low) x ≡ true → x +ℤ low ≡ pos (above x (neg_ℤ low))
    back p =
        ap (λ (z : ℤ). z +ℤ low) (sym (above_back x (neg_ℤ low) p)) ∙ -ℤ-+ℤ_cancel (pos (above x (neg_ℤ low))) low

    go : (t : Bool) → le_z (neg_ℤ low) x ≡ t → t ≡ false
    go true p = absurd (true≢false (ap not_negative (sym (back p) ∙ e)))
    go false p = refl

pub index_before : (x low : ℤ) (e : ℕ) → lt_z (x +ℤ low) (pos 0) ≡ true → e ≡ index_in x low e
unfolding index_in
index_before x low e h = go (x +ℤ low) refl h
  where
    go : (z : ℤ) → x +ℤ low ≡ z → lt_z z (pos 0) ≡ true → e ≡ index_in x low e
    go (pos m) d t = absurd (omega (arith, ltb-true m 0 t))
    go (negsuc m) d t = rw (sum_outside x low m d)

pub index_past : (x low : ℤ) (e : ℕ) → lt_z (x +ℤ low) (pos 0) ≡ false → le_z (pos e) (x +ℤ low) ≡ true → e ≡ index_in x low e
unfolding index_in
index_past x low e h k = go (x +ℤ low) refl h k
  where
    go : (z : ℤ) → x +ℤ low ≡ z → lt_z z (pos 0) ≡ false → le_z (pos e) z ≡ true → e ≡ index_in x low e
    go (pos m) d t u =
        let (p, q) = sum_inside x low m d in
        rw (p, le-ltb (above x (neg_ℤ low)) e (omega (arith, q, leb-true e m u)))
    go (negsuc m) d t u = absurd (true≢false t)

pub index_there : (x low : ℤ) (e : ℕ) → lt_z (x +ℤ low) (pos 0) ≡ false → le_z (pos e) (x +ℤ low) ≡ false → x +ℤ low ≡ pos (index_in x low e)
unfolding index_in
index_there x low e h k = go (x +ℤ low) refl h k
  where
    go : (z : ℤ) → x +ℤ low ≡ z → lt_z z (pos 0) ≡ false → le_z (pos e) z ≡ false → z ≡ pos (index_in x low e)
    go (pos m) d t u =
        let (p, q) = sum_inside x low m d in
        rw (p, lt-ltb (above x (neg_ℤ low)) e (omega (arith, q, leb-false e m u))) (ap pos (sym q))
    go (negsuc m) d t u = absurd (true≢false t)
