-- Laws of row-major places.
use Prim.Native.Nat.{ℕ, zero, suc, ◌+◌, ◌*◌, ◌%◌, ◌<◌}
use mathlib.Core.Bool.{true, cond, ◌&&◌}
use mathlib.Core.List.{List, [], ◌∷◌}
use mathlib.Core.Path.{◌≡◌, refl, sym, ap, ap₂}
use native.Mathlib.Nat.{div-add-mod', mod-lt, div-lt_iff_lt-mul, mul-le-mul_right, zero-div, zero-mod, zero-mul}
use native.Mathlib.Omega.{arith}
use native.Mathlib.Decide.{ℕ_discrete, dec_lt}
use lib.Dec.{ltb, eqb}
use lib.IntN.{ℤ}
use lib.Signed.{le_z}
use borrow.Author.Tests.{lt-ltb, le-ltb, eq-eqb, ne_eqb}
use Rattle.model.specs.Lists.{product}
use Rattle.model.specs.Vectors.{above, before}
use Rattle.model.specs.Geometry.{cell_count, place, indices}
use Rattle.model.specs.Windows.{relative}
use Rattle.grid_laws.proofs.IntegerLaws.{ltb_agrees, above_order, above_same, above_injective}

-- The indices of a cell: one for each size, and below it.
abbrev pub Below : List ℕ → List ℕ → Type 0
Below [] [] = Unit {0}
Below [] (x ∷ xs) = ⊥
Below (s ∷ ss) [] = ⊥
Below (s ∷ ss) (x ∷ xs) = (x < s) × Below ss xs

-- The sum of two vectors of indices.
unfoldable pub add : List ℕ → List ℕ → List ℕ
add [] ys = []
add (x ∷ xs) [] = []
add (x ∷ xs) (y ∷ ys) = (x + y) ∷ add xs ys

-- The place of a cell is below the cell count, places add up, and a place has one cell.
pub place_below : (ss xs : List ℕ) → Below ss xs → place ss xs < cell_count ss
unfolding place cell_count product
place_below [] [] b = omega arith
place_below [] (x ∷ xs) b = absurd b
place_below (s ∷ ss) [] b = absurd b
place_below (s ∷ ss) (x ∷ xs) b = omega (arith, place_below ss xs b.1, mul-le-mul_right (product ss) b.0)

pub place_add : (ss xs ys : List ℕ) → Below ss (add xs ys) → place ss (add xs ys) ≡ place ss xs + place ss ys
unfolding place add
place_add [] xs ys b = refl
place_add (s ∷ ss) [] ys b = absurd b
place_add (s ∷ ss) (x ∷ xs) [] b = absurd b
place_add (s ∷ ss) (x ∷ xs) (y ∷ ys) b = omega (arith, place_add ss xs ys b.1)

-- x * c + p and y * c + q, with p and q below c, are equal only if x and y are.
first_parts : (c x y p q : ℕ) → p < c → q < c → x * c + p ≡ y * c + q → x ≡ y
first_parts c x y p q h k e = go (ℕ_discrete x y) (dec_lt x y)
  where
    go : Dec (x ≡ y) → Dec (x < y) → x ≡ y
    go (yes f) d = f
    go (no f) (yes d) = absurd (omega (arith, mul-le-mul_right c d))
    go (no f) (no d) =
        let g : y < x = omega arith in
        absurd (omega (arith, mul-le-mul_right c g))

pub place_injective : (ss xs ys : List ℕ) → Below ss xs → Below ss ys → place ss xs ≡ place ss ys → xs ≡ ys
unfolding place cell_count
place_injective [] [] [] a b e = refl
place_injective [] [] (y ∷ ys) a b e = absurd b
place_injective [] (x ∷ xs) ys a b e = absurd a
place_injective (s ∷ ss) [] ys a b e = absurd a
place_injective (s ∷ ss) (x ∷ xs) [] a b e = absurd b
place_injective (s ∷ ss) (x ∷ xs) (y ∷ ys) a b e =
    let h = first_parts (product ss) x y (place ss xs) (place ss ys) (place_below ss xs a.1) (place_below ss ys b.1) e in
    ap₂ ◌∷◌ h (place_injective ss xs ys a.1 b.1 (omega (arith, ap (λ (z : ℕ). z * product ss) h)))

factor_above_0 : (j e p : ℕ) → j < e * p → 0 < p
factor_above_0 j e zero h = omega arith
factor_above_0 j e (suc p) h = omega arith

-- Number j's indices lie in the box, at place j.
pub indices_below : (es : List ℕ) (j : ℕ) → j < product es → Below es (indices es j)
unfolding product indices
indices_below [] j h = tt
indices_below (e ∷ es) j h =
    let z = factor_above_0 j e (product es) h in
    ((div-lt_iff_lt-mul z).1 h, indices_below es (j % product es) (mod-lt j z))

pub place_indices : (es : List ℕ) (j : ℕ) → j < product es → place es (indices es j) ≡ j
unfolding product indices place cell_count
place_indices [] j h = omega arith
place_indices (e ∷ es) j h =
    let z = factor_above_0 j e (product es) h in
    omega (arith, place_indices es (j % product es) (mod-lt j z), div-add-mod' j (product es))

-- The indices of iteration 0 are all 0.
pub first_indices : (ss es : List ℕ) → place ss (indices es 0) ≡ 0
unfolding place indices
first_indices [] es = refl
first_indices (s ∷ ss) [] = refl
first_indices (s ∷ ss) (e ∷ es) = rw (zero-div (product es), zero-mod (product es), zero-mul (cell_count ss)) (omega (arith, first_indices ss es))

-- The entries of the second vector are at least those of the first.
pub data AtLeast : List ℤ → List ℤ → Type 0 where
  none : AtLeast [] []
  next : {l x : ℤ} {ls xs : List ℤ} → le_z l x ≡ true → AtLeast ls xs → AtLeast (l ∷ ls) (x ∷ xs)

-- Lexicographic order is the order of places: in each grid that both vectors lie in, counted from ls.
pub before_place : (ss : List ℕ) {ls xs ys : List ℤ} → AtLeast ls xs → AtLeast ls ys → Below ss (relative xs ls) → Below ss (relative ys ls)
    → before xs ys ≡ ltb (place ss (relative xs ls)) (place ss (relative ys ls))
unfolding before place relative
before_place [] none none a b = refl
before_place [] (next h m) n a b = absurd a
before_place (s ∷ ss) none n a b = absurd a
before_place (s ∷ ss) (next {l} {x} {ls} {xs} h m) (next {x = y} {xs = ys} k n) a b =
    rw (above_order x y l h k, above_same x y l h k, before_place ss m n a.1 b.1)
    (go (dec_lt (above x l) (above y l)) (ℕ_discrete (above x l) (above y l)) (place_below ss (relative xs ls) a.1) (place_below ss (relative ys ls) b.1))
  where
    go : {c p q x y : ℕ} → Dec (x < y) → Dec (x ≡ y) → p < c → q < c → cond (ltb x y) true (eqb x y && ltb p q) ≡ ltb (x * c + p) (y * c + q)
    go {c} {p} {q} {x} {y} (yes d) f h k = rw (lt-ltb x y d) (sym (lt-ltb (x * c + p) (y * c + q) (omega (arith, mul-le-mul_right c d))))
    go {c} {p} {q} {x} {y} (no d) (yes f) h k =
        rw (le-ltb x y (omega arith), eq-eqb x y f) (ltb_agrees p q (x * c + p) (y * c + q) (let g = ap (λ (z : ℕ). z * c) f in omega arith))
    go {c} {p} {q} {x} {y} (no d) (no f) h k =
        let g : y < x = omega arith in
        rw (le-ltb x y (omega arith), ne_eqb x y f) (sym (le-ltb (x * c + p) (y * c + q) (omega (arith, mul-le-mul_right c g))))

-- Vectors that are the same counted from ls are the same.
pub relative_injective : {ls xs ys : List ℤ} → AtLeast ls xs → AtLeast ls ys → relative xs ls ≡ relative ys ls → xs ≡ ys
unfolding relative
relative_injective none none e = refl
relative_injective (next {l} {x} h m) (next {x = y} k n) e =
    let e₁ : above x l ≡ above y l = cc in
    ap₂ ◌∷◌ (above_injective x y l h k e₁) (relative_injective m n (cc))
