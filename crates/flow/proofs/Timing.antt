-- Filter 0's counter: it takes at most a cell a clock, and tells which iterations have fired.
use Prim.Native.Nat.{ℕ, zero, suc, ◌+◌, ◌≤◌, ◌<◌}
use mathlib.Core.List.{List, [], ◌∷◌, map}
use mathlib.Core.Path.{◌≡◌, refl}
use native.Mathlib.Omega.{arith}
use native.Mathlib.Decide.{ℕ_discrete, le_ind}
use lib.ListN.{replicate}
use Rattle.model_run.specs.Clock.{Layout, Counters, turns, next, fresh}
use Rattle.flow.specs.Machine.{first, Ran, Lawful, past, Holds, Invariant}
use Rattle.flow.proofs.Tests.{by_next}
use Rattle.flow.proofs.Runs.{along}
use Rattle.flow.proofs.Turns.{moved_turned}
use Rattle.flow.proofs.Invariant.{first_wanted}

module _ (L : Layout) where
  open L use {wants, capacity, filters, cells, iterations}

  pub fresh_first : first (fresh L).passed ≡ 0
  unfolding fresh
  fresh_first = go filters
    where
      go : (m : ℕ) → first (replicate m 0) ≡ 0
      go zero = refl
      go (suc m) = refl

  next_slow : (s : Counters) → first (next L s).passed ≤ suc (first s.passed)
  unfolding turns
  next_slow s = by_next L (λ x. first x.passed ≤ suc (first s.passed)) s (λ _. firing s.passed) (λ _. turning s.passed)
    where
      firing : (ps : List ℕ) → first (map suc ps) ≤ suc (first ps)
      firing [] = omega arith
      firing (p ∷ ps) = omega arith

      turning : (ps : List ℕ) → first (turns (wants s.fired) capacity 0 cells ps) ≤ suc (first ps)
      turning [] = omega arith
      turning (p ∷ ps) = (moved_turned L s.fired 0 cells p ps).slow

  pub ran_slow : {s s' : Counters} {t : ℕ} → Ran L s t s' → first s'.passed ≤ t + first s.passed
  ran_slow {s} ran = along L (λ t x. first x.passed ≤ t + first s.passed) (omega arith) (λ t x _ _ h. omega (arith, next_slow x)) ran

  -- No filter is ahead of its source, so filter 0 is past what any filter has fired.
  past_source : (f k source : ℕ) (ps : List ℕ) → Holds L f k source ps → (j : ℕ) → k ≤ j → j < filters → past L f j ≤ source
  past_source f k source [] held j from filter = omega arith
  past_source f k source (p ∷ ps) held j from filter = go (ℕ_discrete j k) (past_source f (suc k) p ps held.1 j)
    where
      go : Dec (j ≡ k) → (suc k ≤ j → j < filters → past L f j ≤ p) → past L f j ≤ source
      go (yes e) behind = rw e (omega arith)
      go (no e) behind = omega (arith, behind (omega arith) filter)

  past_first : (f : ℕ) (ps : List ℕ) → Holds L f 0 cells ps → (k : ℕ) → k < filters → past L f k ≤ first ps
  past_first f [] held k filter = omega arith
  past_first f (p ∷ ps) held zero filter = held.0.fired
  past_first f (p ∷ ps) held (suc k) filter = past_source f 1 p ps held.1 (suc k) (omega arith) filter

  module _ (lawful : Lawful L) where
    rises_to : (i j k : ℕ) → i ≤ j → j ≤ iterations → k < filters → wants i k ≤ wants j k
    rises_to i j k from to filter = le_ind (λ m. m ≤ iterations → wants i k ≤ wants m k) (λ _. omega arith)
        (λ m _ before left. omega (arith, before (omega arith), lawful.rises m k left filter)) j from to

    -- Filter 0 is past every cell that was read by an iteration that has fired,
    pub fired_passed : (s : Counters) → Invariant L s → (j k : ℕ) → j < s.fired → k < filters → wants j k < first s.passed
    fired_passed s inv j k fired filter = go s.fired fired inv.most (past_first s.fired s.passed inv.all k filter)
      where
        go : (f : ℕ) → j < f → f ≤ iterations → past L f k ≤ first s.passed → wants j k < first s.passed
        go zero fired most past = omega arith
        go (suc g) fired most past = omega (arith, rises_to j g k (omega arith) (omega arith) filter)

    -- and not past what it reads itself in an iteration that has not.
    pub unfired_first : (s : Counters) → Invariant L s → (j : ℕ) → s.fired ≤ j → j ≤ iterations → first s.passed ≤ wants j 0
    unfired_first s inv j unfired to = omega (arith, first_wanted L s inv, rises_to s.fired j 0 unfired to lawful.some)

    pub passed_fired : (s : Counters) → Invariant L s → (j : ℕ) → j < iterations → wants j 0 < first s.passed → j < s.fired
    passed_fired s inv j iteration passed =
        let contrary : ¬ (s.fired ≤ j) = λ unfired. omega (arith, unfired_first s inv j unfired (omega arith)) in
        omega arith
