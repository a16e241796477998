-- Laws of vectors: which are equal, and which comes first.
use Prim.Native.Nat.{ℕ}
use mathlib.Core.Bool.{Bool, true, false, cond, ◌&&◌, true≢false, and-eq-true_iff}
use mathlib.Core.List.{List, [], ◌∷◌}
use mathlib.Core.Path.{◌≡◌, refl, sym, ◌∙◌, ap, ap₂}
use native.Mathlib.Nat.{suc_inj}
use native.Mathlib.Decide.{ℕ_discrete}
use native.Mathlib.Omega.{arith}
use lib.Dec.{eqb}
use lib.ListN.{length}
use lib.IntN.{ℤ, pos, negsuc}
use lib.Signed.{lt_z}
use borrow.Author.Tests.{ltb-false, eqb-true, eqb-false, lt-ltb, eq-eqb, ne_eqb}
use Rattle.model.specs.Vectors.{same, equal, before, is_zero}

eqb_symmetric : (a b : ℕ) → eqb a b ≡ eqb b a
eqb_symmetric a b = go (ℕ_discrete a b)
  where
    go : Dec (a ≡ b) → eqb a b ≡ eqb b a
    go (yes e) = eq-eqb a b e ∙ sym (eq-eqb b a (sym e))
    go (no n) = ne_eqb a b n ∙ sym (ne_eqb b a (λ e. n (sym e)))

same_symmetric : (x y : ℤ) → same x y ≡ same y x
unfolding same
same_symmetric (pos a) (pos b) = eqb_symmetric a b
same_symmetric (pos a) (negsuc b) = refl
same_symmetric (negsuc a) (pos b) = refl
same_symmetric (negsuc a) (negsuc b) = eqb_symmetric a b

pub equal_symmetric : (xs ys : List ℤ) → equal xs ys ≡ equal ys xs
unfolding equal
equal_symmetric [] [] = refl
equal_symmetric [] (y ∷ ys) = refl
equal_symmetric (x ∷ xs) [] = refl
equal_symmetric (x ∷ xs) (y ∷ ys) = ap₂ ◌&&◌ (same_symmetric x y) (equal_symmetric xs ys)

-- Equal vectors are one, and each vector is equal to itself.
same_is : (x y : ℤ) → same x y ≡ true → x ≡ y
unfolding same
same_is (pos a) (pos b) e = ap pos (eqb-true a b e)
same_is (pos a) (negsuc b) e = absurd (true≢false (sym e))
same_is (negsuc a) (pos b) e = absurd (true≢false (sym e))
same_is (negsuc a) (negsuc b) e = ap negsuc (eqb-true a b e)

pub equal_is : (xs ys : List ℤ) → equal xs ys ≡ true → xs ≡ ys
unfolding equal
equal_is [] [] e = refl
equal_is [] (y ∷ ys) e = absurd (true≢false (sym e))
equal_is (x ∷ xs) [] e = absurd (true≢false (sym e))
equal_is (x ∷ xs) (y ∷ ys) e =
    let both = (and-eq-true_iff (same x y) (equal xs ys)).0 e in
    ap₂ ◌∷◌ (same_is x y both.0) (equal_is xs ys both.1)

same_itself : (x : ℤ) → same x x ≡ true
unfolding same
same_itself (pos a) = eq-eqb a a refl
same_itself (negsuc a) = eq-eqb a a refl

pub equal_itself : (xs : List ℤ) → equal xs xs ≡ true
unfolding equal
equal_itself [] = refl
equal_itself (x ∷ xs) = rw (same_itself x) (equal_itself xs)

-- There is one zero offset of a length.
pub one_zero : (xs ys : List ℤ) → length xs ≡ length ys → is_zero xs ≡ true → is_zero ys ≡ true → xs ≡ ys
unfolding is_zero
one_zero [] [] n e d = refl
one_zero [] (y ∷ ys) n e d = absurd (omega arith)
one_zero (x ∷ xs) [] n e d = absurd (omega arith)
one_zero (x ∷ xs) (y ∷ ys) n e d =
    let a = (and-eq-true_iff (same x (pos 0)) (is_zero xs)).0 e in
    let b = (and-eq-true_iff (same y (pos 0)) (is_zero ys)).0 d in
    ap₂ ◌∷◌ (same_is x (pos 0) a.0 ∙ sym (same_is y (pos 0) b.0)) (one_zero xs ys (suc_inj n) a.1 b.1)

-- Of two whole numbers that differ, one is below the other.
other_below : (x y : ℤ) → lt_z x y ≡ false → same x y ≡ false → lt_z y x ≡ true
unfolding same
other_below (pos a) (pos b) h d = omega (arith, ltb-false, eqb-false a b d, lt-ltb)
other_below (pos a) (negsuc b) h d = refl
other_below (negsuc a) (pos b) h d = absurd (true≢false h)
other_below (negsuc a) (negsuc b) h d = omega (arith, ltb-false, eqb-false a b d, lt-ltb)

-- Of two vectors of one length that differ, one comes before the other.
pub other_before : (xs ys : List ℤ) → length xs ≡ length ys → before xs ys ≡ false → equal xs ys ≡ false → before ys xs ≡ true
unfolding before equal
other_before [] [] n h d = absurd (true≢false d)
other_before [] (y ∷ ys) n h d = absurd (omega arith)
other_before (x ∷ xs) [] n h d = absurd (omega arith)
other_before (x ∷ xs) (y ∷ ys) n h d = go (lt_z x y) (same x y) refl refl h d (other_before xs ys (suc_inj n))
  where
    either : (b : Bool) → cond b true true ≡ true
    either true = refl
    either false = refl

    go : (b s : Bool) → lt_z x y ≡ b → same x y ≡ s → cond b true (s && before xs ys) ≡ false → s && equal xs ys ≡ false
        → (before xs ys ≡ false → equal xs ys ≡ false → before ys xs ≡ true) → cond (lt_z y x) true (same y x && before ys xs) ≡ true
    go true s l e h d f = absurd (true≢false h)
    go false true l e h d f = rw (sym (same_symmetric x y) ∙ e, f h d) (either (lt_z y x))
    go false false l e h d f = rw (other_below x y l e)
