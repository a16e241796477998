-- Filters that stand as far apart as their references read: all of them move in each clock, and filter 0 alone decides whether it fires.
use Prim.Native.Nat.{ℕ, suc, ◌+◌, ◌≤◌, ◌<◌}
use mathlib.Core.Bool.{Bool, true, false, ◌&&◌}
use mathlib.Core.List.{List, [], ◌∷◌, map}
use mathlib.Core.Path.{◌≡◌, refl, ◌∙◌, ap}
use native.Mathlib.Omega.{arith}
use lib.Dec.{ltb}
use lib.ListN.{length}
use borrow.Author.Tests.{lt-ltb, eq-eqb, ne_eqb}
use Rattle.model.specs.Lists.{sum}
use Rattle.model_run.specs.Clock.{Layout, turn, limit, turns, ready, fires, next, moves}
use Rattle.flow.proofs.Turns.{goes}
use Rattle.flow.specs.Machine.{Holds, Ready}
use Rattle.loop_laws.specs.Passes.{Aligned}
use Rattle.loop_laws.specs.Standings.{counting}

module _ (w cap : ℕ → ℕ) where
  -- A clock that moves all keeps it.
  pub aligned_on : (k : ℕ) (ps : List ℕ) → Aligned w cap k ps → Aligned w cap k (map suc ps)
  aligned_on k [] a = tt
  aligned_on k (p ∷ []) a = tt
  aligned_on k (p ∷ q ∷ qs) a = (omega arith, omega arith, omega arith, aligned_on (suc k) (q ∷ qs) a.3)

  -- Where the first filter is at its wanted cell, all are.
  pub aligned_ready : (k source p : ℕ) (ps : List ℕ) → p < source → Aligned w cap k (p ∷ ps) → p ≡ w k → ready w k source (p ∷ ps) ≡ true
  unfolding ready
  aligned_ready k source p [] h a e = rw (lt-ltb p source h, eq-eqb p (w k) e)
  aligned_ready k source p (q ∷ qs) h a e = rw (lt-ltb p source h, eq-eqb p (w k) e) (aligned_ready (suc k) p q qs a.0 a.3 (omega arith))

  -- Where it is not, none is, and every splitter moves.
  pub aligned_turns : (k source p : ℕ) (ps : List ℕ) → p < source → Aligned w cap k (p ∷ ps) → (p ≡ w k → ⊥) → turns w cap k source (p ∷ ps) ≡ map suc (p ∷ ps)
  unfolding turns limit
  aligned_turns k source p [] h a n = ap (λ (m : ℕ). m ∷ []) (goes source (w k) (suc p) p h n (omega arith))
  aligned_turns k source p (q ∷ qs) h a n =
      ap (λ (ms : List ℕ). turn source (w k) (limit cap k p ms) p ∷ ms) (aligned_turns (suc k) p q qs a.0 a.3 (λ e. n (omega arith)))
      ∙ ap (λ (m : ℕ). m ∷ suc q ∷ map suc qs) (goes source (w k) (suc q + cap k) p h n (omega arith))

  pub aligned_not : (k source p : ℕ) (ps : List ℕ) → (p ≡ w k → ⊥) → ready w k source (p ∷ ps) ≡ false
  unfolding ready
  aligned_not k source p ps n = rw (ne_eqb p (w k) n) (go (ltb p source))
    where
      go : (b : Bool) → (b && false) ≡ false
      go true = refl
      go false = refl

-- What counts is how far apart the references are. n: how many there are.
pub aligned_same : (w w' cap cap' : ℕ → ℕ) (d d' k n : ℕ) (ps : List ℕ) → k + length ps ≤ n → ((j : ℕ) → j < n → w j + d ≡ w' j + d')
    → ((j : ℕ) → suc j < n → cap j ≡ cap' j) → Aligned w cap k ps → Aligned w' cap' k ps
aligned_same w w' cap cap' d d' k n [] l e c a = tt
aligned_same w w' cap cap' d d' k n (p ∷ []) l e c a = tt
aligned_same w w' cap cap' d d' k n (p ∷ q ∷ qs) l e c a = (
  a.0,
  omega (arith, c k (omega arith)),
  omega (arith, e k (omega arith), e (suc k) (omega arith)),
  aligned_same w w' cap cap' d d' (suc k) n (q ∷ qs) (omega arith) e c a.3,
)

pub sum_more : (ps : List ℕ) → sum ps ≤ sum (map suc ps)
unfolding sum
sum_more [] = omega arith
sum_more (p ∷ ps) = omega (arith, sum_more ps)

pub sum_up : (p : ℕ) (ps : List ℕ) → sum (p ∷ ps) < sum (map suc (p ∷ ps))
unfolding sum
sum_up p ps = omega (arith, sum_more ps)

module _ (L : Layout) where
  open L use {wants, capacity, filters, cells}

  module _ (f p : ℕ) (ps : List ℕ) (here : p < cells) (aligned : Aligned (wants f) capacity 0 (p ∷ ps)) where
    pub fires_yes : p ≡ wants f 0 → fires L (counting f (p ∷ ps)) ≡ true
    unfolding fires
    fires_yes e = aligned_ready (wants f) capacity 0 cells p ps here aligned e

    pub next_fires : p ≡ wants f 0 → next L (counting f (p ∷ ps)) ≡ counting (suc f) (map suc (p ∷ ps))
    unfolding next
    next_fires e = rw (fires_yes e)

    pub fires_no : (p ≡ wants f 0 → ⊥) → fires L (counting f (p ∷ ps)) ≡ false
    unfolding fires
    fires_no n = aligned_not (wants f) capacity 0 cells p ps n

    pub next_waits : (p ≡ wants f 0 → ⊥) → next L (counting f (p ∷ ps)) ≡ counting f (map suc (p ∷ ps))
    unfolding next
    next_waits n = rw (fires_no n, aligned_turns (wants f) capacity 0 cells p ps here aligned n)

    pub moves_fires : p ≡ wants f 0 → moves L (counting f (p ∷ ps)) ≡ true
    unfolding moves
    moves_fires e = rw (next_fires e) (lt-ltb (sum (p ∷ ps)) (sum (map suc (p ∷ ps))) (sum_up p ps))

    pub moves_waits : (p ≡ wants f 0 → ⊥) → moves L (counting f (p ∷ ps)) ≡ true
    unfolding moves
    moves_waits n = rw (next_waits n) (lt-ltb (sum (p ∷ ps)) (sum (map suc (p ∷ ps))) (sum_up p ps))

  -- A clock that fires finds the filters aligned, whatever the capacities.
  pub ready_aligned : (f k source : ℕ) (ps : List ℕ) → Holds L f k source ps → Ready L f k source ps → Aligned (wants f) capacity k ps
  ready_aligned f k source [] i r = tt
  ready_aligned f k source (p ∷ []) i r = tt
  ready_aligned f k source (p ∷ q ∷ qs) i r = (r.2.0, i.0.fits, omega (arith, r.1, r.2.1), ready_aligned f (suc k) p (q ∷ qs) i.1 r.2)
