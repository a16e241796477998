-- How far the filters of a chain, or of a piece of one, are before clock u, where iteration f is the next since clock a: no filter goes more than a cell a clock, and
-- while the iteration's condition holds a filter that has further to go moves in every clock.
use Prim.Native.Nat.{ℕ, zero, suc, ◌+◌, ◌≤◌, ◌<◌}
use mathlib.Core.Bool.{not, cond, ◌&&◌}
use mathlib.Core.List.{List, [], ◌∷◌, map}
use mathlib.Core.Logic.{◌⊎◌, inl, inr}
use mathlib.Core.Path.{◌≡◌, ◌∙◌}
use native.Mathlib.Omega.{arith}
use native.Mathlib.Decide.{ℕ_discrete, dec_lt}
use lib.Dec.{ltb, eqb}
use lib.ListN.{replicate}
use borrow.Author.Tests.{lt-ltb, le-ltb, eq-eqb}
use Rattle.model_run.specs.Clock.{Layout, turn, limit, turns}
use Rattle.flow.specs.Machine.{Flows, Holds, Ready, past}
use Rattle.flow.proofs.Turns.{moved, moved_turned}
use Rattle.flow.proofs.Progress.{pushed}

-- A splitter that is presented no cell, or its wanted one, stays, whatever the limit.
stays : (source wanted limit p : ℕ) → (p < source → p ≡ wanted) → turn source wanted limit p ≡ p
unfolding turn
stays source wanted limit p h = go (dec_lt p source)
  where
    go : Dec (p < source) → cond (ltb p source && (not (eqb p wanted) && ltb p limit)) (suc p) p ≡ p
    go (yes d) = rw (lt-ltb p source d, eq-eqb p wanted (h d))
    go (no d) = rw (le-ltb p source (omega arith))

module _ (L : Layout) where
  open L use {wants, capacity, filters}

  -- No filter from k on went more than a cell a clock.
  abbrev pub Low : (f a u k : ℕ) → List ℕ → Type 0
  Low f a u k [] = Unit {0}
  Low f a u k (p ∷ ps) = (a + p ≤ u + past L f k) × Low f a u (suc k) ps

  pub low_fresh : (k m : ℕ) → Low 0 0 0 k (replicate m 0)
  low_fresh k zero = tt
  low_fresh k (suc m) = (omega arith, low_fresh (suc k) m)

  pub low_turns : (f a u k source : ℕ) (ps : List ℕ) → Low f a u k ps → Low f a (suc u) k (turns (wants f) capacity k source ps)
  unfolding turns
  low_turns f a u k source [] h = tt
  low_turns f a u k source (p ∷ ps) h = (omega (arith, h.0, (moved_turned L f k source p ps).slow), low_turns f a u (suc k) p ps h.1)

  pub low_fires : (f a u k source : ℕ) (ps : List ℕ) → Ready L f k source ps → a ≤ suc u → Low (suc f) a (suc u) k (map suc ps)
  low_fires f a u k source [] r h = tt
  low_fires f a u k source (p ∷ ps) r h = (omega (arith, r.1), low_fires f a u (suc k) p ps r.2 h)

  -- So where all are presented wanted cells, none had further to go than there were clocks.
  pub low_ready : (f a u k source : ℕ) (ps : List ℕ) → Holds L f k source ps → Low f a u k ps → Ready L f k source ps → (j : ℕ) → k ≤ j → j < filters → a + wants f j ≤ u + past L f j
  low_ready f a u k source [] held low r j from filter = absurd (let z : ⊥ = omega (arith, held) in z)
  low_ready f a u k source (p ∷ ps) held low r j from filter = go (ℕ_discrete j k) (low_ready f a u (suc k) p ps held.1 low.1 r.2 j)
    where
      go : Dec (j ≡ k) → (suc k ≤ j → j < filters → a + wants f j ≤ u + past L f j) → a + wants f j ≤ u + past L f j
      go (yes e) later = rw e (omega (arith, low.0, r.1))
      go (no e) later = later (omega arith) filter

  -- Before the first firing filter k gets its first cell k clocks late; later none is late.
  abbrev delay : (f k : ℕ) → ℕ
  delay zero k = k
  delay (suc f) k = 0

  -- A filter at p is at its wanted cell, or moved in every clock but for its delay,
  abbrev Kept : (f a u k p : ℕ) → Type 0
  Kept f a u k p = (p ≡ wants f k) ⊎ (u + past L f k ≤ a + p + delay f k)

  -- and so are all from k on.
  abbrev pub High : (f a u k : ℕ) → List ℕ → Type 0
  High f a u k [] = Unit {0}
  High f a u k (p ∷ ps) = Kept f a u k p × High f a u (suc k) ps

  -- In the iteration before, the positions read fell.
  abbrev pub Was : (f : ℕ) → Type 0
  Was zero = Unit {0}
  Was (suc g) = Flows L g

  -- A filter to which its source has let no cell more than it passed is in time all the same.
  abbrev Fed : (f a u k source : ℕ) → Type 0
  Fed f a u k source = source ≤ wants f k → suc u + past L f k ≤ a + source + delay f k

  fed_next : (f a u k p : ℕ) → Was f → Flows L f → suc k < filters → Kept f a u k p → Fed f a u (suc k) p
  fed_next f a u k p was flows filter (inl e) low = absurd (let z : ⊥ = omega (arith, (flows k filter).falls, e, low) in z)
  fed_next zero a u k p was flows filter (inr h) low = omega (arith, h)
  fed_next (suc g) a u k p was flows filter (inr h) low = omega (arith, h, (was k filter).falls)

  high_step : (f a u k source p : ℕ) (ps : List ℕ) → Flows L f → Holds L f k source (p ∷ ps) → Fed f a u k source → Kept f a u k p → Kept f a (suc u) k (moved L f k source p ps)
  high_step f a u k source p ps flows held fed high = go (ℕ_discrete p (wants f k)) (dec_lt p source) high
    where
      go : Dec (p ≡ wants f k) → Dec (p < source) → Kept f a u k p → Kept f a (suc u) k (moved L f k source p ps)
      go (yes e) d h = inl (stays source (wants f k) _ p (λ _. e) ∙ e)
      go (no n) (yes presented) (inl e) = absurd (n e)
      go (no n) (yes presented) (inr h) = inr (omega (arith, h, pushed L f k source p ps flows held presented n))
      go (no n) (no d) h =
          inr (omega (arith, fed (omega (arith, held.0.wanted)), held.0.sourced, stays source (wants f k) (limit capacity k p (turns (wants f) capacity (suc k) p ps)) p (λ g. absurd (d g))))

  high_on : (f a u k source : ℕ) (ps : List ℕ) → Was f → Flows L f → Holds L f k source ps → Fed f a u k source → High f a u k ps → High f a (suc u) k (turns (wants f) capacity k source ps)
  unfolding turns
  high_on f a u k source [] was flows held fed high = tt
  high_on f a u k source (p ∷ []) was flows held fed high = (high_step f a u k source p [] flows held fed high.0, tt)
  high_on f a u k source (p ∷ q ∷ qs) was flows held fed high = (
    high_step f a u k source p (q ∷ qs) flows held fed high.0,
    high_on f a u (suc k) p (q ∷ qs) was flows held.1 (fed_next f a u k p was flows held.1.0.filter high.0) high.1,
  )

  pub high_fresh : (k m : ℕ) → High 0 0 0 k (replicate m 0)
  high_fresh k zero = tt
  high_fresh k (suc m) = (inr (omega arith), high_fresh (suc k) m)

  -- The stream has a cell more than the first filter wants.
  pub high_turns : (f a u source : ℕ) (ps : List ℕ) → Was f → Flows L f → Holds L f 0 source ps → wants f 0 < source → High f a u 0 ps → High f a (suc u) 0 (turns (wants f) capacity 0 source ps)
  high_turns f a u source ps was flows held below high = high_on f a u 0 source ps was flows held (λ few. absurd (let z : ⊥ = omega (arith, few, below) in z)) high

  pub high_fires : (f a u k source : ℕ) (ps : List ℕ) → Ready L f k source ps → suc u ≤ a → High (suc f) a (suc u) k (map suc ps)
  high_fires f a u k source [] r h = tt
  high_fires f a u k source (p ∷ ps) r h = (inr (omega (arith, r.1)), high_fires f a u (suc k) p ps r.2 h)

  -- None has further to go than there were clocks; with the delays.
  abbrev Due : (f a u : ℕ) → Type 0
  Due f a u = (k : ℕ) → k < filters → a + wants f k + delay f k ≤ u + past L f k

  lead : Flows L 0 → (k : ℕ) → k < filters → wants 0 k + k ≤ wants 0 0
  lead flows zero filter = omega arith
  lead flows (suc k) filter = omega (arith, lead flows k (omega arith), (flows k filter).falls)

  all_due : (f a u : ℕ) → Flows L f → ((k : ℕ) → k < filters → a + wants f k ≤ u + past L f k) → Due f a u
  all_due zero a u flows h k filter = omega (arith, lead flows k filter, h 0 (omega arith))
  all_due (suc f) a u flows h k filter = omega (arith, h k filter)

  at_wanted : (f a u k source p : ℕ) (ps : List ℕ) → Holds L f k source (p ∷ ps) → Due f a u → Kept f a u k p → p ≡ wants f k
  at_wanted f a u k source p ps held due (inl e) = e
  at_wanted f a u k source p ps held due (inr h) = omega (arith, h, due k held.0.filter, held.0.wanted)

  ready_due : (f a u k source : ℕ) (ps : List ℕ) → Flows L f → Holds L f k source ps → Due f a u → wants f k < source → High f a u k ps → Ready L f k source ps
  ready_due f a u k source [] flows held due below high = tt
  ready_due f a u k source (p ∷ []) flows held due below high = let e = at_wanted f a u k source p [] held due high.0 in (omega arith, e, tt)
  ready_due f a u k source (p ∷ q ∷ qs) flows held due below high =
      let e = at_wanted f a u k source p (q ∷ qs) held due high.0 in
      (omega arith, e, ready_due f a u (suc k) p (q ∷ qs) flows held.1 due (omega (arith, (flows k held.1.0.filter).falls)) high.1)

  -- Once there were as many clocks as the filter that has furthest to go needs, all are presented wanted cells.
  pub high_ready : (f a u source : ℕ) (ps : List ℕ) → Flows L f → Holds L f 0 source ps → ((k : ℕ) → k < filters → a + wants f k ≤ u + past L f k) → wants f 0 < source → High f a u 0 ps
      → Ready L f 0 source ps
  high_ready f a u source ps flows held h below high = ready_due f a u 0 source ps flows held (all_due f a u flows h) below high
