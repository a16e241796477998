-- Where an iteration's condition holds, something moves; where it fails, the iteration does not fire.
use Prim.Native.Nat.{ℕ, suc, ◌+◌, ◌≤◌, ◌<◌}
use mathlib.Core.List.{List, [], ◌∷◌, map}
use mathlib.Core.Logic.{◌≢◌}
use mathlib.Core.Path.{◌≡◌}
use native.Mathlib.Omega.{arith}
use native.Mathlib.Decide.{ℕ_discrete, dec_lt}
use Rattle.model.specs.Lists.{sum}
use Rattle.model_run.specs.Clock.{Layout, Counters, limit, turns, next}
use Rattle.flow.specs.Machine.{first, Lawful, Spans, Flows, Holds, Invariant, Ready, Fires}
use Rattle.flow.proofs.Tests.{by_next}
use Rattle.flow.proofs.Turns.{goes, moved, moved_turned, sum_turns}
use Rattle.flow.proofs.Invariant.{first_below}

module _ (L : Layout) where
  open L use {wants, capacity, filters, cells, iterations}

  -- Every splitter that is presented an unwanted cell moves: where its FIFO is full, the splitter behind is itself presented an unwanted cell, and makes a place.
  pub pushed : (f k source p : ℕ) (ps : List ℕ) → Flows L f → Holds L f k source (p ∷ ps) → p < source → p ≢ wants f k → moved L f k source p ps ≡ suc p
  unfolding limit turns
  pushed f k source p [] flows held presented unwanted = goes source (wants f k) (suc p) p presented unwanted (omega arith)
  pushed f k source p (q ∷ qs) flows held presented unwanted =
      goes source (wants f k) (moved L f (suc k) p q qs + capacity k) p presented unwanted (place (dec_lt p (q + capacity k)) (pushed f (suc k) p q qs flows held.1))
    where
      place : Dec (p < q + capacity k) → (q < p → q ≢ wants f (suc k) → moved L f (suc k) p q qs ≡ suc q) → p < moved L f (suc k) p q qs + capacity k
      place (yes free) behind = omega (arith, (moved_turned L f (suc k) p q qs).grows)
      place (no full) behind = let spans = flows k held.1.0.filter in omega (arith, behind (omega arith) (omega arith))

  -- Unless every filter is presented a wanted cell, a splitter moves.
  pub stirred : (f k source p : ℕ) (ps : List ℕ) → Flows L f → Holds L f k source (p ∷ ps) → p < source → ¬ Ready L f k source (p ∷ ps)
      → sum (p ∷ ps) < sum (turns (wants f) capacity k source (p ∷ ps))
  unfolding sum turns
  stirred f k source p [] flows held presented unready = omega (arith, pushed f k source p [] flows held presented (λ e. unready (presented, e, tt)))
  stirred f k source p (q ∷ qs) flows held presented unready = go (ℕ_discrete p (wants f k)) (stirred f (suc k) p q qs flows held.1)
    where
      go : Dec (p ≡ wants f k) → (q < p → ¬ Ready L f (suc k) p (q ∷ qs) → sum (q ∷ qs) < sum (turns (wants f) capacity (suc k) p (q ∷ qs)))
          → sum (p ∷ q ∷ qs) < sum (turns (wants f) capacity k source (p ∷ q ∷ qs))
      go (yes wanted) behind =
          let spans = flows k held.1.0.filter in
          omega (arith, (moved_turned L f k source p (q ∷ qs)).grows, behind (omega arith) (λ ready. unready (presented, wanted, ready)))
      go (no unwanted) behind = omega (arith, pushed f k source p (q ∷ qs) flows held presented unwanted, sum_turns L f (suc k) p (q ∷ qs))

  pub sum_firing : (ps : List ℕ) → sum ps ≤ sum (map suc ps)
  unfolding sum
  sum_firing [] = omega arith
  sum_firing (p ∷ ps) = omega (arith, sum_firing ps)

  pub next_rises : Lawful L → (s : Counters) → Invariant L s → s.fired < iterations → Flows L s.fired → sum s.passed < sum (next L s).passed
  unfolding sum
  next_rises lawful s inv left flows = by_next L (λ x. sum s.passed < sum x.passed) s
      (λ _. firing s.passed inv.all) (turning s.passed inv.all (first_below L lawful s inv left))
    where
      firing : (ps : List ℕ) → Holds L s.fired 0 cells ps → sum ps < sum (map suc ps)
      firing [] held = omega (arith, lawful.some)
      firing (p ∷ ps) held = omega (arith, sum_firing ps)

      turning : (ps : List ℕ) → Holds L s.fired 0 cells ps → first ps < cells → ¬ Ready L s.fired 0 cells ps
          → sum ps < sum (turns (wants s.fired) capacity 0 cells ps)
      turning [] held below unready = omega (arith, lawful.some)
      turning (p ∷ ps) held below unready = stirred s.fired 0 cells p ps flows held below unready

  -- Filters from k on that are presented wanted cells show that their FIFOs hold the distances.
  ready_spans : (f k source : ℕ) (ps : List ℕ) → Holds L f k source ps → Ready L f k source ps → (j : ℕ) → k ≤ j → suc j < filters → Spans L f j
  ready_spans f k source [] held ready j from filter = omega arith
  ready_spans f k source (p ∷ []) held ready j from filter = omega arith
  ready_spans f k source (p ∷ q ∷ qs) held ready j from filter = go (ℕ_discrete j k) (ready_spans f (suc k) p (q ∷ qs) held.1 ready.2 j)
    where
      go : Dec (j ≡ k) → (suc k ≤ j → suc j < filters → Spans L f j) → Spans L f j
      go (yes e) behind = rw e (omega arith)
      go (no e) behind = behind (omega arith) filter

  pub fires_flows : (s : Counters) → Invariant L s → Fires L s → Flows L s.fired
  fires_flows s inv ready k filter = ready_spans s.fired 0 cells s.passed inv.all ready k (omega arith) filter
