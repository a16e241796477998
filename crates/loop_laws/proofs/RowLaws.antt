-- The walk to an iteration is the place of its indices, and within a row it rises by 1.
use Prim.Native.Nat.{ℕ, zero, suc, ◌+◌, ◌-◌, ◌*◌, ◌/◌, ◌%◌, ◌∣◌, ◌<◌}
use mathlib.Core.List.{List, [], ◌∷◌}
use mathlib.Core.Path.{◌≡◌, refl, ◌∙◌, ap}
use native.Mathlib.Nat.{add-mul, one-mul, div-one, div-add-mod', div-eq_of_lt-le, mod-lt, suc-mod, mod-eq_of_lt, mod-mod_of_dvd, mod-eq-zero_of_dvd, dvd_refl, dvd-mul_left_of_dvd}
use native.Mathlib.Omega.{arith}
use native.Mathlib.Decide.{ℕ_discrete}
use lib.ListN.{length, get_or, drop}
use Rattle.model.specs.Lists.{product}
use Rattle.model.specs.Geometry.{cell_count, place, indices}
use Rattle.loop_laws.specs.LoopTables.{walked}

-- Tables of m dimensions from d on.
pub walked_place : (ss es spans strides : List ℕ) (m d j : ℕ) → length ss ≡ m → length es ≡ m → ((i : ℕ) → i < m → get_or spans (d + i) 0 ≡ product (drop (suc i) es))
    → ((i : ℕ) → i < m → get_or strides (d + i) 0 ≡ cell_count (drop (suc i) ss)) → walked spans strides m d j ≡ place ss (indices es j)
unfolding walked place indices
walked_place [] [] spans strides zero d j ls le b s = refl
walked_place [] [] spans strides (suc m) d j ls le b s = absurd (omega arith)
walked_place [] (e ∷ es) spans strides zero d j ls le b s = absurd (omega arith)
walked_place [] (e ∷ es) spans strides (suc m) d j ls le b s = absurd (omega arith)
walked_place (x ∷ ss) es spans strides zero d j ls le b s = absurd (omega arith)
walked_place (x ∷ ss) [] spans strides (suc m) d j ls le b s = absurd (omega arith)
walked_place (x ∷ ss) (e ∷ es) spans strides (suc m) d j ls le b s =
    let z : d + 0 ≡ d = omega arith in
    let hb = rw z at (b 0 (omega arith)) in
    let hs = rw z at (s 0 (omega arith)) in
    rw (hb, hs)
    (ap (λ (y : ℕ). j / product es * cell_count ss + y)
    (walked_place ss es spans strides m (suc d) (j % product es) (omega arith) (omega arith)
    (λ i h. let k : suc d + i ≡ d + suc i = omega arith in rw k (b (suc i) (omega arith)))
    (λ i h. let k : suc d + i ≡ d + suc i = omega arith in rw k (s (suc i) (omega arith)))))

-- The last of some extents.
pub last_of : List ℕ → ℕ
last_of [] = 0
last_of (e ∷ []) = e
last_of (e ∷ f ∷ es) = last_of (f ∷ es)

pub last_is : (es : List ℕ) → get_or es (length es - 1) 0 ≡ last_of es
unfolding last_of
last_is [] = refl
last_is (e ∷ []) = refl
last_is (e ∷ f ∷ es) =
    let z : suc (suc (length es)) - 1 ≡ suc (suc (length es) - 1) = omega arith in
    rw z (last_is (f ∷ es))

pub divides : (e : ℕ) (es : List ℕ) → last_of (e ∷ es) ∣ product (e ∷ es)
unfolding last_of product
divides e [] = rw (let z : e * 1 ≡ e = omega arith in z) (dvd_refl e)
divides e (f ∷ es) = dvd-mul_left_of_dvd (last_of (f ∷ es)) (divides f es) e

factor_some : (e p : ℕ) → 0 < e * p → 0 < p
factor_some e zero h = omega arith
factor_some e (suc p) h = omega arith

pub product_drop : (es : List ℕ) (k : ℕ) → 0 < product es → 0 < product (drop k es)
unfolding product
product_drop es zero h = h
product_drop [] (suc k) h = h
product_drop (e ∷ es) (suc k) h = product_drop es k (factor_some e (product es) h)

-- Number f is not the last of its span of p.
next_in_span : (p r f : ℕ) → r ∣ p → 0 < p → suc (f % r) < r → suc (f % p) < p
next_in_span p r f d h l = go (ℕ_discrete (suc (f % p)) p)
  where
    go : Dec (suc (f % p) ≡ p) → suc (f % p) < p
    go (yes e) =
        let a : suc (f % p) % r ≡ suc (f % r) = suc-mod (f % p) r ∙ rw (mod-mod_of_dvd r f d) (mod-eq_of_lt l) in
        let b : suc (f % p) % r ≡ 0 = ap (λ (y : ℕ). y % r) e ∙ mod-eq-zero_of_dvd r d in
        absurd (omega arith)
    go (no e) = omega (arith, mod-lt f h)

pub place_next : (ss es : List ℕ) (f : ℕ) → length ss ≡ length es → 0 < length es → 0 < product es → suc (f % last_of es) < last_of es
    → place ss (indices es (suc f)) ≡ suc (place ss (indices es f))
unfolding place indices last_of product cell_count
place_next ss [] f l n p h = absurd (omega arith)
place_next [] (e ∷ es) f l n p h = absurd (omega arith)
place_next (s ∷ []) (e ∷ []) f l n p h = rw (div-one (suc f), div-one f) (omega arith)
place_next (s ∷ t ∷ ss) (e ∷ []) f l n p h = absurd (omega arith)
place_next (s ∷ ss) (e ∷ g ∷ es) f l n p h =
    let q = factor_some e (product (g ∷ es)) p in
    let d = divides g es in
    let i = next_in_span (product (g ∷ es)) (last_of (g ∷ es)) f d q h in
    let m : suc f % product (g ∷ es) ≡ suc (f % product (g ∷ es)) = suc-mod f (product (g ∷ es)) ∙ mod-eq_of_lt i in
    let x = div-add-mod' f (product (g ∷ es)) in
    let o = one-mul (product (g ∷ es)) in
    let a = add-mul (f / product (g ∷ es)) 1 (product (g ∷ es)) in
    let v : suc f / product (g ∷ es) ≡ f / product (g ∷ es) = div-eq_of_lt-le (product (g ∷ es)) (omega arith) (omega arith) in
    let r = place_next ss (g ∷ es) (f % product (g ∷ es)) (omega arith) (omega arith) q (rw (mod-mod_of_dvd (last_of (g ∷ es)) f d) h) in
    rw (m, v) (omega (arith, r))
