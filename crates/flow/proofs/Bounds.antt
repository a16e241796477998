-- How many clocks and how many firings a run can have.
use Prim.Native.Nat.{ℕ, suc, ◌+◌, ◌*◌, ◌≤◌, ◌<◌}
use mathlib.Core.List.{List, [], ◌∷◌}
use mathlib.Core.Path.{◌≡◌}
use native.Mathlib.Omega.{arith}
use native.Mathlib.Decide.{ℕ_discrete}
use Rattle.model.specs.Lists.{sum}
use Rattle.model_run.specs.Clock.{Layout, Counters, next}
use Rattle.flow.specs.Machine.{first, Ran, Lawful, FlowsUpTo, Holds, Invariant, Fires}
use Rattle.flow.proofs.Tests.{moves_yes, live_yes, by_next}
use Rattle.flow.proofs.Runs.{along}
use Rattle.flow.proofs.Invariant.{ran_keeps, first_below}
use Rattle.flow.proofs.Progress.{fires_flows}

module _ (L : Layout) where
  open L use {filters, cells, iterations}

  -- Each clock raises the sum of the counters,
  pub ran_sum : {s s' : Counters} {t : ℕ} → Ran L s t s' → t + sum s.passed ≤ sum s'.passed
  ran_sum {s} ran = along L (λ t x. t + sum s.passed ≤ sum x.passed) (omega arith) (λ t x _ alive h. omega (arith, moves_yes L x (live_yes L x alive).1)) ran

  -- and no counter is above the number of cells;
  sum_most : (f k source : ℕ) (ps : List ℕ) → source ≤ cells → Holds L f k source ps → k * cells + sum ps ≤ filters * cells
  unfolding sum
  sum_most f k source [] within held = rw held (omega arith)
  sum_most f k source (p ∷ ps) within held = omega (arith, sum_most f (suc k) p ps (omega arith) held.1)

  pub sum_within : (s : Counters) → Invariant L s → sum s.passed ≤ filters * cells
  sum_within s inv = omega (arith, sum_most s.fired 0 cells s.passed (omega arith) inv.all)

  module _ (lawful : Lawful L) where
    -- while a firing is left, filter 0's is below it.
    pub sum_below : (s : Counters) → Invariant L s → s.fired < iterations → sum s.passed < filters * cells
    unfolding sum
    sum_below s inv left = go s.passed inv.all (first_below L lawful s inv left)
      where
        go : (ps : List ℕ) → Holds L s.fired 0 cells ps → first ps < cells → sum ps < filters * cells
        go [] held below = omega (arith, lawful.some)
        go (p ∷ ps) held below = omega (arith, sum_most s.fired 1 p ps held.0.sourced held.1)

    -- An iteration whose condition fails is never fired.
    module _ {B : ℕ} (flows : FlowsUpTo L B) where
      next_most : (s : Counters) → Invariant L s → s.fired < iterations → s.fired ≤ B → (next L s).fired ≤ B
      next_most s inv left most = by_next L (λ x. x.fired ≤ B) s (firing (ℕ_discrete s.fired B)) (λ _. most)
        where
          firing : Dec (s.fired ≡ B) → Fires L s → s.fired < B
          firing (yes e) ready = absurd (flows.ends (omega arith) (rw e at (fires_flows L s inv ready)))
          firing (no e) ready = omega arith

      pub ran_most : {s s' : Counters} {t : ℕ} → Ran L s t s' → Invariant L s → s.fired ≤ B → s'.fired ≤ B
      ran_most ran inv most = along L (λ _ x. x.fired ≤ B) most (λ t x r alive. next_most x (ran_keeps L lawful r inv) (live_yes L x alive).0) ran
