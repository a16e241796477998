-- The clock's definitions as the code meets them.
use Prim.Native.Nat.{ℕ, zero, suc, ◌+◌, ◌-◌, ◌≤◌, ◌<◌}
use mathlib.Core.Bool.{Bool, true, false, not, cond, ◌&&◌}
use mathlib.Core.List.{List, [], ◌∷◌, ◌++◌}
use mathlib.Core.Path.{◌≡◌, refl, sym, ◌∙◌, ap, ap₂}
use native.Mathlib.Decide.{ℕ_discrete}
use native.Mathlib.Numerals.{add-one}
use native.Mathlib.Omega.{arith}
use lib.Dec.{ltb, eqb}
use lib.ListN.{length, get_or, take, drop, set, length-set, take-append-drop}
use lib.Seq.{slice, slice-cons, slice_empty, get_or-set_same, get_or-set_other, take-set-lt, drop-set-lt}
use borrow.Author.Tests.{lt-ltb, le-ltb, ltb-true, eq-eqb, ne_eqb}
use Rattle.model_run.specs.Clock.{turn, limit, turns}
use Rattle.loop_laws.specs.Passes.{of}
use Rattle.loop_laws.specs.Sweeps.{before, source, swept}

pub turn_absent : (src w b p : ℕ) → src ≤ p → p ≡ turn src w b p
unfolding turn
turn_absent src w b p h = rw (le-ltb p src h)

pub turn_wanted : (src w b p : ℕ) → p ≡ w → p ≡ turn src w b p
unfolding turn
turn_wanted src w b p h = go (ltb p src) (eqb p w) (eq-eqb p w h)
  where
    go : (x y : Bool) → y ≡ true → p ≡ cond (x && (not y && ltb p b)) (suc p) p
    go true y e = rw e
    go false y e = refl

pub turn_full : (src w b p : ℕ) → b ≤ p → p ≡ turn src w b p
unfolding turn
turn_full src w b p h = rw (le-ltb p b h) (go (ltb p src) (not (eqb p w)))
  where
    go : (x y : Bool) → p ≡ cond (x && (y && false)) (suc p) p
    go true true = refl
    go true false = refl
    go false y = refl

pub turn_goes : (src w b p : ℕ) → p < src → (p ≡ w → ⊥) → p < b → p + 1 ≡ turn src w b p
unfolding turn
turn_goes src w b p h g l = rw (lt-ltb p src h, ne_eqb p w g, lt-ltb p b l, add-one)

pub turn_most : (src w b p : ℕ) → turn src w b p ≤ p + 1
unfolding turn
turn_most src w b p = go (ltb p src && (not (eqb p w) && ltb p b))
  where
    go : (x : Bool) → cond x (suc p) p ≤ p + 1
    go true = omega arith
    go false = omega arith

pub turn_least : (src w b p : ℕ) → p ≤ turn src w b p
unfolding turn
turn_least src w b p = go (ltb p src && (not (eqb p w) && ltb p b))
  where
    go : (x : Bool) → p ≤ cond x (suc p) p
    go true = omega arith
    go false = omega arith

-- A filter that goes on has a cell before it and a place behind it.
pub turn_went : (src w b p : ℕ) → p < turn src w b p → (turn src w b p ≡ suc p) × (p < src) × (p < b)
unfolding turn
turn_went src w b p h = go (ltb p src) (eqb p w) (ltb p b) refl refl h
  where
    go : (x y z : Bool) → ltb p src ≡ x → ltb p b ≡ z → p < cond (x && (not y && z)) (suc p) p → (cond (x && (not y && z)) (suc p) p ≡ suc p) × (p < src) × (p < b)
    go true false true e f h = (refl, ltb-true p src e, ltb-true p b f)
    go true false false e f h = absurd (omega arith)
    go true true z e f h = absurd (omega arith)
    go false y z e f h = absurd (omega arith)

pub source_before : (cells : ℕ) (ps : List ℕ) (k : ℕ) → source cells ps k ≡ before cells (of ps) k
unfolding source
source_before cells ps k = refl

pub source_first : (cells : ℕ) (ps : List ℕ) (k : ℕ) → k ≡ 0 → cells ≡ source cells ps k
unfolding source
source_first cells ps k e = rw e

pub source_later : (cells : ℕ) (ps : List ℕ) (k : ℕ) → (k ≡ 0 → ⊥) → get_or ps (k - 1) 0 ≡ source cells ps k
unfolding source
source_later cells ps zero n = absurd (n refl)
source_later cells ps (suc k) n = rw (let e : suc k - 1 ≡ k = omega arith in e)

module _ (c : ℕ → ℕ) where
  pub limit_inner : (k p n : ℕ) (ps : List ℕ) → k + 1 < n → n ≤ length ps → get_or ps (k + 1) 0 + c k ≡ limit c k p (slice (suc k) n ps)
  unfolding limit
  limit_inner k p n ps h l = rw (slice-cons (suc k) n ps 0 (omega arith) l, add-one)

  pub limit_last : (k p n : ℕ) (ps : List ℕ) → k < n → (k + 1 < n → ⊥) → p + 1 ≡ limit c k p (slice (suc k) n ps)
  unfolding limit
  limit_last k p n ps h l = rw (let e : n ≡ suc k = omega arith in e, slice_empty, add-one)

-- The loop over the splitters, from the last down to filter k.
pub record Sweeping (ws cs old ps : List ℕ) (n cells k : ℕ) : Type 0 where
  pub range : k ≤ n
  pub fits : n ≤ length old
  pub size : length ps ≡ length old
  pub front : (i : ℕ) → i < k → get_or ps i 0 ≡ get_or old i 0
  pub rest : drop n ps ≡ drop n old
  pub done : slice k n ps ≡ turns (λ i. get_or ws i 0) (λ i. get_or cs i 0) k (source cells old k) (slice k n old)
  pub small : (i : ℕ) → get_or ps i 0 ≤ get_or old i 0 + 1

pub sweeping_start : (ws cs old : List ℕ) (n cells : ℕ) → n ≤ length old → Sweeping ws cs old old n cells n
unfolding turns
sweeping_start ws cs old n cells h = record {
  range = omega arith;
  fits = h;
  size = refl;
  front = λ i _. refl;
  rest = refl;
  done = rw slice_empty refl;
  small = λ i. omega arith;
}

pub sweeping_end : (ws cs old ps : List ℕ) (n cells : ℕ) → Sweeping ws cs old ps n cells 0 → ps ≡ swept ws cs old n cells
unfolding swept source
sweeping_end ws cs old ps n cells s = sym (take-append-drop n ps) ∙ ap₂ ◌++◌ s.done s.rest

slice_set : (ps : List ℕ) (j n v : ℕ) → j < n → n ≤ length ps → slice j n (set ps j v) ≡ v ∷ slice (suc j) n ps
slice_set ps j n v h l = rw (slice-cons j n (set ps j v) 0 h (rw length-set l), get_or-set_same ps j v 0 (omega arith), take-set-lt n ps j v h, drop-set-lt (suc j) (take n ps) j v (omega arith))

pub sweeping_step : (ws cs old ps : List ℕ) (n cells j : ℕ) → Sweeping ws cs old ps n cells (suc j)
    → Sweeping ws cs old (set ps j (turn (source cells ps j) (get_or ws j 0) (limit (λ i. get_or cs i 0) j (get_or ps j 0) (slice (suc j) n ps)) (get_or ps j 0))) n cells j
unfolding turns
sweeping_step ws cs old ps n cells j s = record {
  range = omega arith;
  fits = s.fits;
  size = simp length-set s.size;
  front = λ i h. get_or-set_other ps j i v 0 (omega arith) ∙ s.front i (omega arith);
  rest = drop-set-lt n ps j v s.range ∙ s.rest;
  done = slice_set ps j n v s.range (omega (arith, s.size)) ∙ rw (slice-cons j n old 0 s.range s.fits, source_same j s, s.front j (omega arith), s.done, source_next j);
  small = λ i. small i (ℕ_discrete i j);
}
  where
    v : ℕ
    v = turn (source cells ps j) (get_or ws j 0) (limit (λ i. get_or cs i 0) j (get_or ps j 0) (slice (suc j) n ps)) (get_or ps j 0)

    source_next : (j : ℕ) → source cells old (suc j) ≡ get_or old j 0
    source_next j = unfold source in refl

    source_same : (j : ℕ) → Sweeping ws cs old ps n cells (suc j) → source cells ps j ≡ source cells old j
    source_same zero s = unfold source in refl
    source_same (suc i) s = let e = s.front i (omega arith) in unfold source in e

    small : (i : ℕ) → Dec (i ≡ j) → get_or (set ps j v) i 0 ≤ get_or old i 0 + 1
    small i (yes e) = rw (e, get_or-set_same ps j v 0 (omega (arith, s.size, s.fits, s.range))) (omega (arith, turn_most (source cells ps j) (get_or ws j 0) (limit (λ i. get_or cs i 0) j (get_or ps j 0) (slice (suc j) n ps)) (get_or ps j 0), s.front j (omega arith)))
    small i (no e) = rw (get_or-set_other ps j i v 0 e) (s.small i)

-- The clock looks only at what its own filters want and at the FIFOs between them.
pub turns_same : (w w' c c' : ℕ → ℕ) (n k src : ℕ) (ps : List ℕ) → k + length ps ≤ n → ((j : ℕ) → j < n → w j ≡ w' j) → ((j : ℕ) → suc j < n → c j ≡ c' j)
    → turns w c k src ps ≡ turns w' c' k src ps
unfolding turns limit
turns_same w w' c c' n k src [] h e d = refl
turns_same w w' c c' n k src (p ∷ ps) h e d =
    rw (turns_same w w' c c' n (suc k) p ps (omega arith) e d, e k (omega arith)) (ap (λ (b : ℕ). turn src (w' k) b p ∷ turns w' c' (suc k) p ps) (limit_same ps h))
  where
    limit_same : (ps : List ℕ) → k + suc (length ps) ≤ n → limit c k p (turns w' c' (suc k) p ps) ≡ limit c' k p (turns w' c' (suc k) p ps)
    limit_same [] h = refl
    limit_same (q ∷ qs) h = let x = d k (omega arith) in omega arith
