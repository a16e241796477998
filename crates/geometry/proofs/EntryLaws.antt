-- Laws of 16-bit entries: their bits, and how far one lies above another.
use Prim.Native.Nat.{◌<◌}
use mathlib.Core.Bool.{Bool, true, false, cond, false≢true}
use mathlib.Core.Path.{◌≡◌, refl, sym, ◌∙◌, ap, ap₂}
use native.Mathlib.Omega.{arith}
use lib.IntN.{ℤ, pos, negsuc, neg_ℤ, ◌+ℤ◌, ◌-ℤ◌, +ℤ_comm, +ℤ_idl}
use lib.Signed.{mag, lt_z, le_z}
use mir.Syntax.{w16, w32}
use mir.Val.{to_z, of_z}
use mir.Facts.{to_z-of_z}
use borrow.Author.Tests.{ltb-true, eq-eqb, ne_eqb}
use Rattle.model.specs.Vectors.{same, above}
use Rattle.grid_laws.proofs.IntegerLaws.{not_lt_z, above_sum}

-- An entry is read back from its bits.
pub entry_back : (x : ℤ) → mag x < 32768 → to_z w16 (of_z w16 x) ≡ x
entry_back x h = to_z-of_z {w = w16} {z = x} (record { sfits = h })

same_numbers : (x : ℤ) → same x x ≡ true
unfolding same
same_numbers (pos a) = eq-eqb a a refl
same_numbers (negsuc a) = eq-eqb a a refl

other_numbers : (x y : ℤ) → (x ≡ y → ⊥) → same x y ≡ false
unfolding same
other_numbers (pos a) (pos b) h = ne_eqb a b (λ e. h (ap pos e))
other_numbers (pos a) (negsuc b) h = refl
other_numbers (negsuc a) (pos b) h = refl
other_numbers (negsuc a) (negsuc b) h = ne_eqb a b (λ e. h (ap negsuc e))

-- Entries are the same if their bits are, and differ if these differ.
pub same_bits : (x y : ℤ) → mag x < 32768 → mag y < 32768 → of_z w16 x ≡ of_z w16 y → same x y ≡ true
same_bits x y h k e = ap (same x) (sym (entry_back y k) ∙ ap (to_z w16) (sym e) ∙ entry_back x h) ∙ same_numbers x

pub other_bits : (x y : ℤ) → (of_z w16 x ≡ of_z w16 y → ⊥) → same x y ≡ false
other_bits x y h = other_numbers x y (λ e. h (ap (of_z w16) e))

-- Entries are ordered as what is read back from their bits.
pub order_bits : (x y : ℤ) (t : Bool) → mag x < 32768 → mag y < 32768 → lt_z (to_z w16 (of_z w16 x)) (to_z w16 (of_z w16 y)) ≡ t → lt_z x y ≡ t
order_bits x y t h k e = sym (ap₂ lt_z (entry_back x h) (entry_back y k)) ∙ e

-- What lies below lies 0 above.
pub above_none : (x l : ℤ) → lt_z x l ≡ true → above x l ≡ 0
unfolding above
above_none (pos a) (pos b) h = omega (arith, ltb-true)
above_none (pos a) (negsuc b) h = absurd (false≢true h)
above_none (negsuc a) (pos b) h = refl
above_none (negsuc a) (negsuc b) h = omega (arith, ltb-true)

-- How far an entry lies above another is their difference, and fits 16 bits.
pub above_difference : (x l : ℤ) → le_z l x ≡ true → x -ℤ l ≡ pos (above x l)
above_difference x l h =
    +ℤ_comm x (neg_ℤ l) ∙ ap (λ (z : ℤ). z +ℤ x) (sym (+ℤ_idl (neg_ℤ l))) ∙ above_sum 0 x l h ∙ ap pos (omega arith)

pub above_small : (x l : ℤ) → mag x < 32768 → mag l < 32768 → above x l < 65536
unfolding above
above_small (pos a) (pos b) h k = omega arith
above_small (pos a) (negsuc b) h k = omega arith
above_small (negsuc a) (pos b) h k = omega arith
above_small (negsuc a) (negsuc b) h k = omega arith

-- The lesser of two entries, where the test on their bits holds and where it does not.
pub lesser_second : (x y : ℤ) → mag x < 32768 → mag y < 32768 → lt_z (to_z w16 (of_z w16 y)) (to_z w16 (of_z w16 x)) ≡ true
    → to_z w16 (of_z w16 y) ≡ cond (lt_z y x) y x
lesser_second x y h k e = rw (order_bits y x true k h e) (entry_back y k)

pub lesser_first : (x y : ℤ) → mag x < 32768 → mag y < 32768 → lt_z (to_z w16 (of_z w16 y)) (to_z w16 (of_z w16 x)) ≡ false
    → to_z w16 (of_z w16 x) ≡ cond (lt_z y x) y x
lesser_first x y h k e = rw (order_bits y x false k h e) (entry_back x h)

-- The difference that the code takes, where the entry is not below.
pub widened_difference : (x l : ℤ) → mag x < 32768 → mag l < 32768 → lt_z (to_z w16 (of_z w16 x)) (to_z w16 (of_z w16 l)) ≡ false
    → to_z w32 (of_z w32 (to_z w16 (of_z w16 x))) -ℤ to_z w32 (of_z w32 (to_z w16 (of_z w16 l))) ≡ pos (above x l)
widened_difference x l h k e =
    ap₂ ◌-ℤ◌ (widened x h) (widened l k) ∙ above_difference x l (not_lt_z x l (order_bits x l false h k e))
  where
    widened : (z : ℤ) → mag z < 32768 → to_z w32 (of_z w32 (to_z w16 (of_z w16 z))) ≡ z
    widened z m = ap (λ (y : ℤ). to_z w32 (of_z w32 y)) (entry_back z m) ∙ to_z-of_z {w = w32} {z = z} (record { sfits = omega arith })
