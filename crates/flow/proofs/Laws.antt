-- The laws of the chain of filters. `Ran L (fresh L) t s`: t clocks made from fresh counters lead to s.
use Prim.Native.Nat.{ℕ, ◌+◌, ◌*◌, ◌≤◌, ◌<◌}
use mathlib.Core.Bool.{true, false, false≢true}
use mathlib.Core.Path.{◌≡◌, sym, ◌∙◌}
use native.Mathlib.Omega.{arith}
use Rattle.model.specs.Lists.{sum}
use Rattle.model_run.specs.Clock.{Layout, Counters, fires, moves, fresh}
use Rattle.flow.specs.Machine.{first, live, run, made, Ran, Lawful, Flows, FlowsUpTo, Planned, Invariant}
use Rattle.flow.proofs.Tests.{fires_yes, yes_moves}
use Rattle.flow.proofs.Invariant.{fresh_invariant, ran_keeps, first_below}
use Rattle.flow.proofs.Progress.{next_rises, fires_flows}
use Rattle.flow.proofs.Bounds.{ran_sum, sum_within, sum_below, ran_most}
use Rattle.flow.proofs.Timing.{fresh_first, ran_slow, fired_passed}
use Rattle.flow.proofs.Planned.{all_flow, ran_first}
-- What `live` and `clock` say, and how runs are put together.
pub use Rattle.flow.proofs.Tests.{live_yes, yes_live, clock_live}
pub use Rattle.flow.proofs.Runs.{still, step, join, made_ran, stopped_same}

module _ (L : Layout) where
  open L use {wants, filters, cells, iterations}

  -- Each clock made raises the sum of the counters.
  pub made_sum : (t : ℕ) (s : Counters) → made L t s + sum s.passed ≤ sum (run L t s).passed
  made_sum t s = ran_sum L (made_ran L t s)

  -- On a planned layout no condition fails.
  pub planned_flows : Planned L → FlowsUpTo L iterations
  planned_flows planned = record { most = omega arith; before = all_flow L planned; ends = omega arith }

  module _ (lawful : Lawful L) where
    -- Of counters that have the invariant.
    module _ {s : Counters} (inv : Invariant L s) where
      -- Where the condition on the next iteration holds, something moves.
      pub progress : s.fired < iterations → Flows L s.fired → moves L s ≡ true
      progress left flows = yes_moves L s (next_rises L lawful s inv left flows)

      -- Where it fails, that iteration does not fire.
      pub block : fires L s ≡ true → Flows L s.fired
      block e = fires_flows L s inv (fires_yes L s e)

      -- While a firing is left, so is a cell for filter 0, and the sum of the counters is below its most.
      pub room_left : s.fired < iterations → (first s.passed < cells) × (sum s.passed < filters * cells)
      room_left left = (first_below L lawful s inv left, sum_below L lawful s inv left)

    -- Of every run from fresh counters.
    module _ {t : ℕ} {s : Counters} (ran : Ran L (fresh L) t s) where
      -- The counters have the invariant.
      pub ran_invariant : Invariant L s
      ran_invariant = ran_keeps L lawful ran (fresh_invariant L)

      -- Clocks made are "over a whole run at most n times the number of cells",
      pub few_clocks : t ≤ filters * cells
      few_clocks = omega (arith, ran_sum L ran, sum_within L s ran_invariant)

      -- and fewer while a firing is left.
      pub fewer_clocks : s.fired < iterations → t < filters * cells
      fewer_clocks left = omega (arith, ran_sum L ran, sum_below L lawful s ran_invariant left)

      -- No iteration fires in a clock before the position of a cell that it reads; clocks are numbered from 0.
      pub not_early : (j k : ℕ) → j < s.fired → k < filters → wants j k < t
      not_early j k fired filter = omega (arith, fired_passed L lawful s ran_invariant j k fired filter, ran_slow L ran, fresh_first L)

      module _ {B : ℕ} (flows : FlowsUpTo L B) where
        -- At most B firings are made.
        pub no_more : s.fired ≤ B
        unfolding fresh
        no_more = ran_most L lawful flows ran (fresh_invariant L) (omega arith)

        -- While fewer are made, there is a clock to make.
        pub goes_on_lem : s.fired < B → live L s ≡ true
        goes_on_lem fewer = let left : s.fired < iterations = omega arith in yes_live L s left (progress ran_invariant left (flows.before s.fired fewer))

        -- Where there is none, B firings are made.
        pub stopped : live L s ≡ false → s.fired ≡ B
        stopped dead = let no_less : ¬ (s.fired < B) = λ fewer. false≢true (sym dead ∙ goes_on_lem fewer) in omega (arith, no_more)

      -- On a planned layout filter 0 takes a cell in every clock.
      pub planned_first : Planned L → first s.passed ≡ t
      planned_first planned = omega (arith, ran_first L planned lawful ran (fresh_invariant L), fresh_first L)
