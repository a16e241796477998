-- Laws of vectors that are natural ones counted from an origin.
use Prim.Native.Nat.{ℕ, suc}
use mathlib.Core.Bool.{Bool, true, false}
use mathlib.Core.List.{List, [], ◌∷◌}
use mathlib.Core.Path.{◌≡◌, refl, sym, ◌∙◌, ap, ap₂}
use native.Mathlib.Omega.{arith}
use native.Mathlib.Nat.{suc_inj}
use lib.Dec.{ltb, eqb}
use lib.ListN.{length}
use lib.IntN.{ℤ, pos, ◌+ℤ◌, +ℤ_assoc, +ℤ_comm, +ℤ_idl}
use lib.Signed.{lt_z}
use Rattle.model.specs.Vectors.{above, same, plus, before}
use Rattle.grid_laws.proofs.IntegerLaws.{above_back, above_order, above_same, sum_above, sum_at_least, lt_z_le_z, not_lt_z}

-- Two numbers are ordered, and differ, as their heights above one that is at most both.
module _ (a b : ℕ) (z : ℤ) where
  order_above : lt_z (pos a +ℤ z) (pos b +ℤ z) ≡ ltb a b
  order_above = above_order (pos a +ℤ z) (pos b +ℤ z) z (sum_at_least a z) (sum_at_least b z) ∙ ap₂ ltb (sum_above a z) (sum_above b z)

  same_above : same (pos a +ℤ z) (pos b +ℤ z) ≡ eqb a b
  same_above = above_same (pos a +ℤ z) (pos b +ℤ z) z (sum_at_least a z) (sum_at_least b z) ∙ ap₂ eqb (sum_above a z) (sum_above b z)

-- So adding a number to both keeps order and difference.
pub record Kept (x y z : ℤ) : Type 0 where
  pub order : lt_z (x +ℤ z) (y +ℤ z) ≡ lt_z x y
  pub differ : same (x +ℤ z) (y +ℤ z) ≡ same x y

pub kept : (x y z : ℤ) → Kept x y z
kept x y z = go (lt_z y x) refl
  where
    from : (a b : ℕ) (l : ℤ) → pos a +ℤ l ≡ x → pos b +ℤ l ≡ y → Kept x y z
    from a b l e f =
        let e' = sym (ap (λ (w : ℤ). w +ℤ z) e) ∙ +ℤ_assoc (pos a) l z in
        let f' = sym (ap (λ (w : ℤ). w +ℤ z) f) ∙ +ℤ_assoc (pos b) l z in
        record {
          order = ap₂ lt_z e' f' ∙ order_above a b (l +ℤ z) ∙ sym (order_above a b l) ∙ ap₂ lt_z e f;
          differ = ap₂ same e' f' ∙ same_above a b (l +ℤ z) ∙ sym (same_above a b l) ∙ ap₂ same e f;
        }

    go : (t : Bool) → lt_z y x ≡ t → Kept x y z
    go true e = from (above x y) 0 y (above_back x y (lt_z_le_z y x e)) (+ℤ_idl y)
    go false e = from 0 (above y x) x (+ℤ_idl x) (above_back y x (not_lt_z y x e))

-- Vectors keep their order when a vector is added to both.
pub before_plus : (u w o : List ℤ) → length u ≡ length o → length w ≡ length o → before (plus u o) (plus w o) ≡ before u w
unfolding before plus
before_plus [] w o n m = refl
before_plus (x ∷ u) [] o n m = absurd (omega arith)
before_plus (x ∷ u) (y ∷ w) [] n m = absurd (omega arith)
before_plus (x ∷ u) (y ∷ w) (z ∷ o) n m = rw ((kept x y z).order, (kept x y z).differ, before_plus u w o (suc_inj n) (suc_inj m))

pub plus_comm : (u v : List ℤ) → plus u v ≡ plus v u
unfolding plus
plus_comm [] [] = refl
plus_comm [] (y ∷ v) = refl
plus_comm (x ∷ u) [] = refl
plus_comm (x ∷ u) (y ∷ v) = ap₂ ◌∷◌ (+ℤ_comm x y) (plus_comm u v)

pub length_plus : (u v : List ℤ) → length u ≡ length v → length (plus u v) ≡ length v
unfolding plus
length_plus [] [] n = refl
length_plus [] (y ∷ v) n = absurd (omega arith)
length_plus (x ∷ u) [] n = absurd (omega arith)
length_plus (x ∷ u) (y ∷ v) n = ap suc (length_plus u v (suc_inj n))
