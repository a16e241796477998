-- Where every filter moves, the words pass through the FIFOs; and a ring place that is carried along is the position's remainder.
use Prim.Native.Nat.{ℕ, suc, ◌+◌, ◌%◌, ◌≤◌, ◌<◌}
use mathlib.Core.Bool.{Bool, true, false, cond}
use mathlib.Core.List.{List, [], ◌∷◌, map}
use mathlib.Core.Path.{◌≡◌, refl, sym, ◌∙◌, ap, ap₂}
use native.Mathlib.Nat.{mod-lt, suc-mod, mod_self, mod-eq_of_lt, add-mod_right}
use native.Mathlib.Omega.{arith}
use lib.Dec.{eqb}
use lib.ListN.{length, get_or, set, length-set}
use lib.Seq.{get_or-set_other}
use borrow.Author.Tests.{eqb-true, eqb-false, lt-ltb}
use Rattle.model_run.specs.Store.{place_in, presented, stored}
use Rattle.run_laws.proofs.Held.{first_place_suc}
use Rattle.loop_laws.specs.Passes.{Places, Aligned, step, flow, flowed, place_of, gets, puts, steps}

pub step_is : (base cap p : ℕ) → 0 < cap → step base (base + cap) (base + p % cap) ≡ base + suc p % cap
unfolding step
step_is base cap p h = go (eqb (suc (base + p % cap)) (base + cap)) refl
  where
    go : (x : Bool) → eqb (suc (base + p % cap)) (base + cap) ≡ x → cond x base (suc (base + p % cap)) ≡ base + suc p % cap
    go true e =
        let d : suc (p % cap) ≡ cap = omega (arith, eqb-true (suc (base + p % cap)) (base + cap) e) in
        let z : suc p % cap ≡ 0 = suc-mod p cap ∙ ap (λ (m : ℕ). m % cap) d ∙ mod_self cap in
        omega arith
    go false e =
        let n = eqb-false (suc (base + p % cap)) (base + cap) e in
        let l : suc (p % cap) < cap = omega (arith, mod-lt p h) in
        let z : suc p % cap ≡ suc (p % cap) = suc-mod p cap ∙ mod-eq_of_lt l in
        omega arith

module _ (base cap w : ℕ → ℕ) where
  -- The places that are carried along are those of the counters.
  pub gets_on_lem : (k : ℕ) (ps : List ℕ) → Aligned w cap k ps → gets base cap k (map suc ps) ≡ steps base cap k (gets base cap k ps)
  unfolding gets steps
  gets_on_lem k [] a = refl
  gets_on_lem k (p ∷ []) a = refl
  gets_on_lem k (p ∷ q ∷ qs) a = ap₂ ◌∷◌ (sym (step_is (base k) (cap k) q (omega arith))) (gets_on_lem (suc k) (q ∷ qs) a.3)

  pub puts_on : (k : ℕ) (ps : List ℕ) → Aligned w cap k ps → puts base cap k (map suc ps) ≡ steps base cap k (puts base cap k ps)
  unfolding puts steps
  puts_on k [] a = refl
  puts_on k (p ∷ []) a = refl
  puts_on k (p ∷ q ∷ qs) a = ap₂ ◌∷◌ (sym (step_is (base k) (cap k) p (omega arith))) (puts_on (suc k) (q ∷ qs) a.3)

-- The head of a full FIFO is where the next cell goes.
pub full_places : (base cap : ℕ → ℕ) (k : ℕ) (ps : List ℕ) → ((i : ℕ) → suc i < length ps → get_or ps i 0 ≡ get_or ps (suc i) 0 + cap (k + i)) → puts base cap k ps ≡ gets base cap k ps
unfolding gets puts
full_places base cap k [] f = refl
full_places base cap k (p ∷ []) f = refl
full_places base cap k (p ∷ q ∷ qs) f =
    let z : k + 0 ≡ k = omega arith in
    let e : p ≡ q + cap k = rw z at (f 0 (omega arith)) in
    ap₂ ◌∷◌ (ap (λ (r : ℕ). base k + r) (ap (λ (x : ℕ). x % cap k) e ∙ add-mod_right q (cap k)))
    (full_places base cap (suc k) (q ∷ qs) (λ i h. let y : k + suc i ≡ suc k + i = omega arith in rw y at (f (suc i) (omega arith))))

module _ (capacity : ℕ → ℕ) (n : ℕ) (base cap : ℕ → ℕ) (places : Places capacity n base cap) where
  pub place_is : (k p : ℕ) → suc k < n → place_in capacity k p ≡ base k + p % cap k
  unfolding place_in
  place_is k p h = rw (places.bases_are k h, places.caps_are k h)

  pub laid : (k : ℕ) → suc (suc k) < n → base k + cap k ≡ base (suc k)
  laid k h = omega (arith, places.bases_are k (omega arith), places.caps_are k (omega arith), places.bases_are (suc k) h, first_place_suc capacity k)

  module _ (w : ℕ → ℕ) where
    -- What lies behind FIFO k is as it was.
    agree_on : (k p x : ℕ) (old store : List ℕ) → 0 < cap k → suc (suc k) < n → ((i : ℕ) → base k ≤ i → get_or store i 0 ≡ get_or old i 0)
        → (i : ℕ) → base (suc k) ≤ i → get_or (set store (place_of base cap k p) x) i 0 ≡ get_or old i 0
    agree_on k p x old store c l g i h =
        let m = mod-lt p c in
        let b = laid k l in
        get_or-set_other store (place_of base cap k p) i x 0 (λ e. omega arith) ∙ g i (omega arith)

    pub stored_flow : (k x : ℕ) (old ps store : List ℕ) → k + length ps ≤ n → Aligned w cap k ps → ((i : ℕ) → base k ≤ i → get_or store i 0 ≡ get_or old i 0)
        → stored capacity k x old ps (map suc ps) store ≡ flow x (gets base cap k ps) (puts base cap k ps) store
    unfolding stored flow gets puts
    stored_flow k x old [] store l a g = refl
    stored_flow k x old (p ∷ []) store l a g = refl
    stored_flow k x old (p ∷ q ∷ []) store l a g = rw (lt-ltb p (suc p) (omega arith), place_is k p (omega arith))
    stored_flow k x old (p ∷ q ∷ r ∷ rs) store l a g =
        rw (lt-ltb p (suc p) (omega arith), place_is k p (omega arith), place_is k q (omega arith), g (place_of base cap k q) (omega arith))
        (stored_flow (suc k) (get_or old (place_of base cap k q) 0) old (q ∷ r ∷ rs) (set store (place_of base cap k p) x) (omega arith) a.3
        (agree_on k p x old store (omega arith) (omega arith) g))

    pub presented_flowed : (k x : ℕ) (old : List ℕ) (p : ℕ) (ps store : List ℕ) → k + length (p ∷ ps) ≤ n → Aligned w cap k (p ∷ ps)
        → ((i : ℕ) → base k ≤ i → get_or store i 0 ≡ get_or old i 0)
        → presented capacity k x old (p ∷ ps) ≡ flowed x (gets base cap k (p ∷ ps)) (puts base cap k (p ∷ ps)) store
    unfolding presented flowed gets puts
    presented_flowed k x old p [] store l a g = refl
    presented_flowed k x old p (q ∷ []) store l a g = ap (λ (y : ℕ). x ∷ y ∷ []) (ap (λ (i : ℕ). get_or old i 0) (place_is k q (omega arith)) ∙ sym (g (place_of base cap k q) (omega arith)))
    presented_flowed k x old p (q ∷ r ∷ rs) store l a g =
        rw (place_is k q (omega arith), g (place_of base cap k q) (omega arith))
        (ap (λ (ys : List ℕ). x ∷ ys)
        (presented_flowed (suc k) (get_or old (place_of base cap k q) 0) old q (r ∷ rs) (set store (place_of base cap k p) x) (omega arith) a.3
        (agree_on k p x old store (omega arith) (omega arith) g)))

pub length_flow : (x : ℕ) (gs us store : List ℕ) → length (flow x gs us store) ≡ length store
unfolding flow
length_flow x [] us store = refl
length_flow x (g ∷ gs) [] store = refl
length_flow x (g ∷ gs) (u ∷ us) store = length_flow (get_or store g 0) gs us (set store u x) ∙ length-set store u x

pub length_flowed : (x : ℕ) (gs us store : List ℕ) → length gs ≡ length us → length (flowed x gs us store) ≡ suc (length us)
unfolding flowed
length_flowed x [] [] store e = refl
length_flowed x [] (u ∷ us) store e = absurd (omega arith)
length_flowed x (g ∷ gs) [] store e = absurd (omega arith)
length_flowed x (g ∷ gs) (u ∷ us) store e = ap suc (length_flowed (get_or store g 0) gs us (set store u x) (omega arith))
