-- Laws of whole numbers: order, how far one lies above another, the least of some.
use Prim.Native.Nat.{ℕ, zero, suc, ◌+◌, ◌-◌, ◌≤◌, ◌<◌}
use mathlib.Core.Bool.{Bool, true, false, cond, true≢false, false≢true}
use mathlib.Core.List.{List, [], ◌∷◌}
use mathlib.Core.Logic.{◌↔◌}
use mathlib.Core.Path.{◌≡◌, refl, sym, ◌∙◌, ap, ◌≡⟨◌⟩◌, ◌∎}
use native.Mathlib.Decide.{dec_lt}
use native.Mathlib.Nat.{le_of_suc-le-suc}
use native.Mathlib.Omega.{arith}
use lib.Dec.{ltb, eqb}
use lib.ListN.{length, get_or}
use lib.IntN.{ℤ, pos, negsuc, ◌+ℤ◌, ◌-ℤ◌, sub_ℕ, +ℤ_assoc, +ℤ_comm, -ℤ-+ℤ_cancel}
use lib.Signed.{lt_z, le_z}
use borrow.Author.Tests.{ltb-true, ltb-false, leb-true, eqb-true, lt-ltb, le-ltb, le-leb, eq-eqb, ne_eqb}
use Rattle.model.specs.Vectors.{above, same}
use Rattle.model.specs.Geometry.{natural, least_from, least}
use Rattle.model.specs.Windows.{Among}

pub le_z_refl : (x : ℤ) → le_z x x ≡ true
le_z_refl (pos a) = omega (arith, le-leb)
le_z_refl (negsuc a) = omega (arith, le-leb)

pub le_z_trans : (x y z : ℤ) → le_z x y ≡ true → le_z y z ≡ true → le_z x z ≡ true
le_z_trans (pos a) (pos b) (pos c) h k = omega (arith, leb-true, le-leb)
le_z_trans (pos a) (pos b) (negsuc c) h k = k
le_z_trans (pos a) (negsuc b) (pos c) h k = absurd (false≢true h)
le_z_trans (pos a) (negsuc b) (negsuc c) h k = h
le_z_trans (negsuc a) (pos b) (pos c) h k = refl
le_z_trans (negsuc a) (pos b) (negsuc c) h k = absurd (false≢true k)
le_z_trans (negsuc a) (negsuc b) (pos c) h k = refl
le_z_trans (negsuc a) (negsuc b) (negsuc c) h k = omega (arith, leb-true, le-leb)

pub le_z_antisym : (x y : ℤ) → le_z x y ≡ true → le_z y x ≡ true → x ≡ y
le_z_antisym (pos a) (pos b) h k = ap pos (omega (arith, leb-true))
le_z_antisym (pos a) (negsuc b) h k = absurd (false≢true h)
le_z_antisym (negsuc a) (pos b) h k = absurd (false≢true k)
le_z_antisym (negsuc a) (negsuc b) h k = ap negsuc (omega (arith, leb-true))

pub lt_z_le_z : (x y : ℤ) → lt_z x y ≡ true → le_z x y ≡ true
lt_z_le_z (pos a) (pos b) h = omega (arith, ltb-true, le-leb)
lt_z_le_z (pos a) (negsuc b) h = h
lt_z_le_z (negsuc a) (pos b) h = refl
lt_z_le_z (negsuc a) (negsuc b) h = omega (arith, ltb-true, le-leb)

pub not_lt_z : (x y : ℤ) → lt_z x y ≡ false → le_z y x ≡ true
not_lt_z (pos a) (pos b) h = omega (arith, ltb-false, le-leb)
not_lt_z (pos a) (negsuc b) h = refl
not_lt_z (negsuc a) (pos b) h = absurd (true≢false h)
not_lt_z (negsuc a) (negsuc b) h = omega (arith, ltb-false, le-leb)

pub le_z_lt_z : (x y : ℤ) → le_z x y ≡ true → lt_z y x ≡ false
le_z_lt_z (pos a) (pos b) h = le-ltb b a (leb-true a b h)
le_z_lt_z (pos a) (negsuc b) h = absurd (false≢true h)
le_z_lt_z (negsuc a) (pos b) h = refl
le_z_lt_z (negsuc a) (negsuc b) h = le-ltb a b (leb-true b a h)

-- Two tests agree where what they test agrees.
tests_agree : (s t : Bool) → (s ≡ true → t ≡ true) → (t ≡ true → s ≡ true) → s ≡ t
tests_agree true t f g = sym (f refl)
tests_agree false true f g = g refl
tests_agree false false f g = refl

pub ltb_agrees : (a b c d : ℕ) → (a < b ↔ c < d) → ltb a b ≡ ltb c d
ltb_agrees a b c d f = tests_agree (ltb a b) (ltb c d) (λ e. lt-ltb c d (f.0 (ltb-true a b e))) (λ e. lt-ltb a b (f.1 (ltb-true c d e)))

eqb_agrees : (a b c d : ℕ) → (a ≡ b ↔ c ≡ d) → eqb a b ≡ eqb c d
eqb_agrees a b c d f = tests_agree (eqb a b) (eqb c d) (λ e. eq-eqb c d (f.0 (eqb-true a b e))) (λ e. eq-eqb a b (f.1 (eqb-true c d e)))

-- The difference of two natural numbers.
pub sub_small : (a b : ℕ) → a < b → sub_ℕ a b ≡ negsuc (b - suc a)
sub_small a b h = rw (lt-ltb a b h)

pub sub_large : (a b : ℕ) → b ≤ a → sub_ℕ a b ≡ pos (a - b)
sub_large a b h = rw (le-ltb a b h)

-- What is at least l is l and how far it lies above.
pub above_back : (x l : ℤ) → le_z l x ≡ true → pos (above x l) +ℤ l ≡ x
unfolding above
above_back (pos a) (pos b) h = ap pos (omega (arith, leb-true))
above_back (pos a) (negsuc b) h = sub_large (a + suc b) (suc b) (omega arith) ∙ ap pos (omega arith)
above_back (negsuc a) (pos b) h = absurd (false≢true h)
above_back (negsuc a) (negsuc b) h = let l = leb-true a b h in sub_small (b - a) (suc b) (omega arith) ∙ ap negsuc (omega arith)

-- u - l + x is u more than x lies above l.
pub above_sum : (u : ℕ) (x l : ℤ) → le_z l x ≡ true → (pos u -ℤ l) +ℤ x ≡ pos (u + above x l)
above_sum u x l h =
    (pos u -ℤ l) +ℤ x ≡⟨ ap (λ (z : ℤ). (pos u -ℤ l) +ℤ z) (sym (above_back x l h) ∙ +ℤ_comm (pos (above x l)) l) ⟩
    (pos u -ℤ l) +ℤ (l +ℤ pos (above x l)) ≡⟨ sym (+ℤ_assoc (pos u -ℤ l) l (pos (above x l))) ⟩
    ((pos u -ℤ l) +ℤ l) +ℤ pos (above x l) ≡⟨ ap (λ (z : ℤ). z +ℤ pos (above x l)) (-ℤ-+ℤ_cancel (pos u) l) ⟩
    pos (u + above x l) ∎

-- Counted from l, numbers that are at least l keep their order, and differ where they differ.
pub above_order : (x y l : ℤ) → le_z l x ≡ true → le_z l y ≡ true → lt_z x y ≡ ltb (above x l) (above y l)
unfolding above
above_order (pos a) (pos b) (pos c) h k = ltb_agrees a b (a - c) (b - c) (let p = leb-true c a h in let q = leb-true c b k in omega arith)
above_order (pos a) (pos b) (negsuc c) h k = ltb_agrees a b (a + suc c) (b + suc c) (omega arith)
above_order (pos a) (negsuc b) (pos c) h k = absurd (false≢true k)
above_order (pos a) (negsuc b) (negsuc c) h k = sym (le-ltb (a + suc c) (c - b) (omega arith))
above_order (negsuc a) y (pos c) h k = absurd (false≢true h)
above_order (negsuc a) (pos b) (negsuc c) h k = sym (lt-ltb (c - a) (b + suc c) (omega arith))
above_order (negsuc a) (negsuc b) (negsuc c) h k = ltb_agrees b a (c - a) (c - b) (let p = leb-true a c h in let q = leb-true b c k in omega arith)

pub above_same : (x y l : ℤ) → le_z l x ≡ true → le_z l y ≡ true → same x y ≡ eqb (above x l) (above y l)
unfolding above same
above_same (pos a) (pos b) (pos c) h k = eqb_agrees a b (a - c) (b - c) (let p = leb-true c a h in let q = leb-true c b k in omega arith)
above_same (pos a) (pos b) (negsuc c) h k = eqb_agrees a b (a + suc c) (b + suc c) (omega arith)
above_same (pos a) (negsuc b) (pos c) h k = absurd (false≢true k)
above_same (pos a) (negsuc b) (negsuc c) h k = sym (ne_eqb (a + suc c) (c - b) (omega arith))
above_same (negsuc a) y (pos c) h k = absurd (false≢true h)
above_same (negsuc a) (pos b) (negsuc c) h k = sym (ne_eqb (c - a) (b + suc c) (omega arith))
above_same (negsuc a) (negsuc b) (negsuc c) h k = eqb_agrees a b (c - a) (c - b) (let p = leb-true a c h in let q = leb-true b c k in omega arith)

pub above_injective : (x y l : ℤ) → le_z l x ≡ true → le_z l y ≡ true → above x l ≡ above y l → x ≡ y
above_injective x y l h k e = sym (above_back x l h) ∙ ap (λ (n : ℕ). pos n +ℤ l) e ∙ above_back y l k

-- What is u more than c lies u above c, and is at least c.
pub sum_above : (u : ℕ) (c : ℤ) → above (pos u +ℤ c) c ≡ u
unfolding above
sum_above u (pos b) = omega arith
sum_above u (negsuc b) = go (dec_lt u (suc b))
  where
    go : Dec (u < suc b) → above (sub_ℕ u (suc b)) (negsuc b) ≡ u
    go (yes h) = rw (sub_small u (suc b) h) (omega arith)
    go (no h) = rw (sub_large u (suc b) (omega arith)) (omega arith)

pub sum_at_least : (u : ℕ) (c : ℤ) → le_z c (pos u +ℤ c) ≡ true
sum_at_least u (pos b) = omega (arith, le-leb)
sum_at_least u (negsuc b) = go (dec_lt u (suc b))
  where
    go : Dec (u < suc b) → le_z (negsuc b) (sub_ℕ u (suc b)) ≡ true
    go (yes h) = rw (sub_small u (suc b) h) (omega (arith, le-leb))
    go (no h) = rw (sub_large u (suc b) (omega arith))

-- Counted from m, what is u more than x lies u further above, and so does what lies that far above x.
pub above_more : (u : ℕ) (x m : ℤ) → le_z m x ≡ true → above (pos u +ℤ x) m ≡ above x m + u
above_more u x m h =
    ap (λ (z : ℤ). above (pos u +ℤ z) m) (sym (above_back x m h))
    ∙ ap (λ (z : ℤ). above z m) (sym (+ℤ_assoc (pos u) (pos (above x m)) m))
    ∙ sum_above (u + above x m) m
    ∙ omega arith

pub above_chain : (x l m : ℤ) → le_z m l ≡ true → le_z l x ≡ true → above x m ≡ above l m + above x l
above_chain x l m h k = ap (λ (z : ℤ). above z m) (sym (above_back x l k)) ∙ above_more (above x l) l m h

-- What is not negative is a natural number.
pub natural_pos : (z : ℤ) → le_z (pos 0) z ≡ true → pos (natural z) ≡ z
unfolding natural
natural_pos (pos n) h = refl
natural_pos (negsuc n) h = absurd (false≢true h)

-- The lesser of two is at most either.
lesser : (x y : ℤ) → (le_z (cond (lt_z y x) y x) x ≡ true) × (le_z (cond (lt_z y x) y x) y ≡ true)
lesser x y = go (lt_z y x) refl
  where
    go : (t : Bool) → lt_z y x ≡ t → (le_z (cond t y x) x ≡ true) × (le_z (cond t y x) y ≡ true)
    go true e = (lt_z_le_z y x e, le_z_refl y)
    go false e = (le_z_refl x, not_lt_z y x e)

-- The least of some whole numbers is at most each of them, and one of them.
least_from_below : (x : ℤ) (ys : List ℤ) (k : ℕ) (d : ℤ) → k < length (x ∷ ys) → le_z (least_from x ys) (get_or (x ∷ ys) k d) ≡ true
unfolding least_from
least_from_below x [] zero d h = le_z_refl x
least_from_below x [] (suc k) d h = absurd (omega arith)
least_from_below x (y ∷ ys) zero d h =
    let m = cond (lt_z y x) y x in
    le_z_trans (least_from m ys) m x (least_from_below m ys 0 d (omega arith)) (lesser x y).0
least_from_below x (y ∷ ys) (suc zero) d h =
    let m = cond (lt_z y x) y x in
    le_z_trans (least_from m ys) m y (least_from_below m ys 0 d (omega arith)) (lesser x y).1
least_from_below x (y ∷ ys) (suc (suc k)) d h = least_from_below (cond (lt_z y x) y x) ys (suc k) d (le_of_suc-le-suc h)

least_from_stands : (x : ℤ) (ys : List ℤ) (d : ℤ) → (k : ℕ) × (k < length (x ∷ ys)) × (get_or (x ∷ ys) k d ≡ least_from x ys)
unfolding least_from
least_from_stands x [] d = (0, omega arith, refl)
least_from_stands x (y ∷ ys) d = go (lt_z y x) (least_from_stands (cond (lt_z y x) y x) ys d)
  where
    go : (t : Bool) → (k : ℕ) × (k < length (cond t y x ∷ ys)) × (get_or (cond t y x ∷ ys) k d ≡ least_from (cond t y x) ys)
        → (k : ℕ) × (k < length (x ∷ y ∷ ys)) × (get_or (x ∷ y ∷ ys) k d ≡ least_from (cond t y x) ys)
    go true (zero, h, e) = (1, omega arith, e)
    go false (zero, h, e) = (0, omega arith, e)
    go true (suc k, h, e) = (suc (suc k), omega arith, e)
    go false (suc k, h, e) = (suc (suc k), omega arith, e)

pub least_below : (xs : List ℤ) (k : ℕ) (d : ℤ) → k < length xs → le_z (least xs) (get_or xs k d) ≡ true
unfolding least
least_below [] k d h = absurd (omega arith)
least_below (x ∷ xs) k d h = least_from_below x xs k d h

pub least_stands : (xs : List ℤ) (d : ℤ) → 0 < length xs → (k : ℕ) × (k < length xs) × (get_or xs k d ≡ least xs)
unfolding least
least_stands [] d h = absurd (omega arith)
least_stands (x ∷ xs) d h = least_from_stands x xs d

pub least_same : (xs ys : List ℤ) (d : ℤ) → Among d xs ys → Among d ys xs → least xs ≡ least ys
least_same [] [] d m n = refl
least_same [] (y ∷ ys) d m n = absurd (omega (arith, n 0 (omega arith)))
least_same (x ∷ xs) [] d m n = absurd (omega (arith, m 0 (omega arith)))
least_same (x ∷ xs) (y ∷ ys) d m n = le_z_antisym (least (x ∷ xs)) (least (y ∷ ys)) (side (y ∷ ys) (x ∷ xs) n (omega arith)) (side (x ∷ xs) (y ∷ ys) m (omega arith))
  where
    side : (xs ys : List ℤ) → Among d xs ys → 0 < length xs → le_z (least ys) (least xs) ≡ true
    side xs ys m h =
        let (k, b, e) = least_stands xs d h in
        let (l, c, f) = m k b in
        rw (f ∙ e) at (least_below ys l d c)
