-- A planned layout: no condition fails, and filter 0 takes a cell in every clock.
use Prim.Native.Nat.{ℕ, suc, ◌+◌, ◌<◌}
use mathlib.Core.List.{List, [], ◌∷◌, map}
use mathlib.Core.Logic.{◌≢◌}
use mathlib.Core.Path.{◌≡◌, refl}
use native.Mathlib.Omega.{arith}
use Rattle.model_run.specs.Clock.{Layout, Counters, turns, next}
use Rattle.flow.specs.Machine.{first, Ran, Lawful, Flows, Planned, Holds, Invariant, Ready, Fires}
use Rattle.flow.proofs.Tests.{live_yes, by_next}
use Rattle.flow.proofs.Runs.{along}
use Rattle.flow.proofs.Invariant.{ran_keeps, first_below}
use Rattle.flow.proofs.Progress.{pushed}

module _ (L : Layout) (planned : Planned L) where
  open L use {wants, capacity, cells, iterations}

  pub all_flow : (f : ℕ) → f < iterations → Flows L f
  all_flow f left k filter = omega (arith, planned.room k filter, planned.exact f k left filter)

  -- Where a filter is presented its wanted cell, so is the next: a FIFO that holds no more than the distance forces it on.
  all_ready : (f k source p : ℕ) (ps : List ℕ) → f < iterations → Holds L f k source (p ∷ ps) → p < source → p ≡ wants f k → Ready L f k source (p ∷ ps)
  all_ready f k source p [] left held presented wanted = (presented, wanted, tt)
  all_ready f k source p (q ∷ qs) left held presented wanted =
      let room = planned.room k held.1.0.filter in
      let exact = planned.exact f k left held.1.0.filter in
      (presented, wanted, all_ready f (suc k) p q qs left held.1 (omega arith) (omega arith))

  module _ (lawful : Lawful L) where
    -- So the clock fires where filter 0 is at its wanted cell,
    pub first_fires : (s : Counters) → Invariant L s → s.fired < iterations → first s.passed ≡ wants s.fired 0 → Fires L s
    first_fires s inv left wanted = go s.passed inv.all (first_below L lawful s inv left) wanted
      where
        go : (ps : List ℕ) → Holds L s.fired 0 cells ps → first ps < cells → first ps ≡ wants s.fired 0 → Ready L s.fired 0 cells ps
        go [] held below wanted = tt
        go (p ∷ ps) held below wanted = all_ready s.fired 0 cells p ps left held below wanted

    -- and else filter 0 moves.
    next_first : (s : Counters) → Invariant L s → s.fired < iterations → first (next L s).passed ≡ suc (first s.passed)
    unfolding turns
    next_first s inv left = by_next L (λ x. first x.passed ≡ suc (first s.passed)) s (λ _. firing s.passed inv.all)
        (λ unready. turning s.passed inv.all (first_below L lawful s inv left) (λ wanted. unready (first_fires s inv left wanted)))
      where
        firing : (ps : List ℕ) → Holds L s.fired 0 cells ps → first (map suc ps) ≡ suc (first ps)
        firing [] held = omega (arith, lawful.some)
        firing (p ∷ ps) held = refl

        turning : (ps : List ℕ) → Holds L s.fired 0 cells ps → first ps < cells → first ps ≢ wants s.fired 0
            → first (turns (wants s.fired) capacity 0 cells ps) ≡ suc (first ps)
        turning [] held below unwanted = omega (arith, lawful.some)
        turning (p ∷ ps) held below unwanted = pushed L s.fired 0 cells p ps (all_flow s.fired left) held below unwanted

    pub ran_first : {s s' : Counters} {t : ℕ} → Ran L s t s' → Invariant L s → first s'.passed ≡ t + first s.passed
    ran_first {s} ran inv = along L (λ t x. first x.passed ≡ t + first s.passed) (omega arith)
        (λ t x r alive e. omega (arith, next_first x (ran_keeps L lawful r inv) (live_yes L x alive).0)) ran
