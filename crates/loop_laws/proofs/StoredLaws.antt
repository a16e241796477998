-- The words of a clock, FIFO by FIFO: what is written behind a place leaves it as it was.
use Prim.Native.Nat.{ℕ, zero, suc, ◌+◌, ◌≤◌, ◌<◌}
use mathlib.Core.Bool.{Bool, true, false, cond}
use mathlib.Core.List.{List, [], ◌∷◌}
use mathlib.Core.Path.{◌≡◌, refl, ◌∙◌, ap}
use native.Mathlib.Omega.{arith}
use lib.Dec.{ltb}
use lib.ListN.{length, get_or, set, length-set}
use native.Mathlib.Decide.{ℕ_discrete}
use lib.Seq.{slice, slice-cons, slice_empty, set_comm}
use Rattle.model_run.specs.Clock.{Layout}
use Rattle.model_run.specs.Store.{first_place, place_in, stored}
use Rattle.flow.specs.Machine.{Holds}
use Rattle.run_laws.proofs.Held.{first_place_suc}

pub holds_below : (L : Layout) (f k source i : ℕ) (ps : List ℕ) → Holds L f k source ps → get_or ps i 0 ≤ source
holds_below L f k source i [] h = omega arith
holds_below L f k source zero (p ∷ ps) h = h.0.sourced
holds_below L f k source (suc i) (p ∷ ps) h = omega (arith, h.0.sourced, holds_below L f (suc k) p i ps h.1)

pub holds_wanted : (L : Layout) (f k source i : ℕ) (ps : List ℕ) → i < length ps → Holds L f k source ps → get_or ps i 0 ≤ L.wants f (k + i)
holds_wanted L f k source i [] l h = absurd (omega arith)
holds_wanted L f k source zero (p ∷ ps) l h = let z : k + 0 ≡ k = omega arith in rw z h.0.wanted
holds_wanted L f k source (suc i) (p ∷ ps) l h = let z : k + suc i ≡ suc k + i = omega arith in rw z (holds_wanted L f (suc k) p i ps (omega arith) h.1)

-- Neighbouring filters are in order, and their FIFO is within its capacity.
pub holds_apart : (L : Layout) (f k source i : ℕ) (ps : List ℕ) → suc i < length ps → Holds L f k source ps
    → (get_or ps (suc i) 0 ≤ get_or ps i 0) × (get_or ps i 0 ≤ get_or ps (suc i) 0 + L.capacity (k + i))
holds_apart L f k source i [] l h = absurd (omega arith)
holds_apart L f k source i (p ∷ []) l h = absurd (omega arith)
holds_apart L f k source zero (p ∷ q ∷ qs) l h = let z : k + 0 ≡ k = omega arith in rw z (h.1.0.sourced, h.0.fits)
holds_apart L f k source (suc i) (p ∷ q ∷ qs) l h =
    let z : k + suc i ≡ suc k + i = omega arith in
    rw z (holds_apart L f (suc k) p i (q ∷ qs) (omega arith) h.1)

-- A word that is written or not.
put_length : (b : Bool) (s : List ℕ) (v x : ℕ) → length (cond b (set s v x) s) ≡ length s
put_length true s v x = length-set s v x
put_length false s v x = refl

put_past : (b : Bool) (s : List ℕ) (u w v x : ℕ) → u < v → cond b (set (set s u w) v x) (set s u w) ≡ set (cond b (set s v x) s) u w
put_past true s u w v x h = set_comm s u v w x (λ e. omega arith)
put_past false s u w v x h = refl

module _ (c : ℕ → ℕ) where
  pub length_stored : (k x : ℕ) (old ps ps' s : List ℕ) → length (stored c k x old ps ps' s) ≡ length s
  unfolding stored
  length_stored k x old [] ps' s = refl
  length_stored k x old (p ∷ []) ps' s = refl
  length_stored k x old (p ∷ q ∷ qs) [] s = refl
  length_stored k x old (p ∷ q ∷ qs) (p' ∷ ps') s =
      length_stored (suc k) (get_or old (place_in c k q) 0) old (q ∷ qs) ps' (cond (ltb p p') (set s (place_in c k p) x) s) ∙ put_length (ltb p p') s (place_in c k p) x

  behind : (k p u : ℕ) → u < first_place c k → u < place_in c k p
  unfolding place_in
  behind k p u h = omega arith

  -- A word before the FIFOs from k on stays.
  pub stored_past : (k x u w : ℕ) (old ps ps' s : List ℕ) → u < first_place c k → stored c k x old ps ps' (set s u w) ≡ set (stored c k x old ps ps' s) u w
  unfolding stored
  stored_past k x u w old [] ps' s h = refl
  stored_past k x u w old (p ∷ []) ps' s h = refl
  stored_past k x u w old (p ∷ q ∷ qs) [] s h = refl
  stored_past k x u w old (p ∷ q ∷ qs) (p' ∷ ps') s h =
      ap (λ (t : List ℕ). stored c (suc k) (get_or old (place_in c k q) 0) old (q ∷ qs) ps' t) (put_past (ltb p p') s u w (place_in c k p) x (behind k p u h))
      ∙ stored_past (suc k) (get_or old (place_in c k q) 0) u w old (q ∷ qs) ps' (cond (ltb p p') (set s (place_in c k p) x) s) (omega (arith, first_place_suc c k))

  -- The words of the filters from j on, where another is behind filter j,
  pub stored_at : (j n x : ℕ) (old l l' s : List ℕ) → suc j < n → n ≤ length l → n ≤ length l'
      → stored c j x old (slice j n l) (slice j n l') s
      ≡ stored c (suc j) (get_or old (place_in c j (get_or l (suc j) 0)) 0) old (slice (suc j) n l) (slice (suc j) n l') (cond (ltb (get_or l j 0) (get_or l' j 0)) (set s (place_in c j (get_or l j 0)) x) s)
  unfolding stored
  stored_at j n x old l l' s h t t' = rw (slice-cons j n l 0 (omega arith) t, slice-cons j n l' 0 (omega arith) t', slice-cons (suc j) n l 0 h t)

  -- and where it is the last.
  pub stored_last : (j n x : ℕ) (old l ps' s : List ℕ) → j ≤ n → n ≤ suc j → n ≤ length l → stored c j x old (slice j n l) ps' s ≡ s
  unfolding stored
  stored_last j n x old l ps' s h g t = go (ℕ_discrete j n)
    where
      go : Dec (j ≡ n) → stored c j x old (slice j n l) ps' s ≡ s
      go (yes e) = rw (e, slice_empty n l)
      go (no e) =
          let e2 : n ≡ suc j = omega arith in
          let one : slice j n l ≡ get_or l j 0 ∷ [] = slice-cons j n l 0 (omega arith) t ∙ rw (e2, slice_empty (suc j) l) in
          rw one
