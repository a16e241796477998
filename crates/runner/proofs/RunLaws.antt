-- The run call: its refusals in their order, and what its clocks leave.
use Prim.Native.Nat.{ℕ}
use mathlib.Core.Bool.{true, false}
use mathlib.Core.List.{List, []}
use mathlib.Core.Path.{◌≡◌, sym, ◌∙◌, ap}
use lib.ListN.{take}
use Rattle.model.specs.Values.{dims_of, offsets_of, capacities_of, order_of, part_of, trimmed}
use Rattle.model.specs.Judging.{judge_chain}
use Rattle.model_run.specs.Clock.{Counters}
use Rattle.model_run.specs.Running.{Run, Ended, layout, counters_of, with_counters, outcome_of, short_store, bad_state, judge_run, begun, written_by, width_of, call, ended, run_trimmed, run_of}
use Rattle.model.specs.declared.Chain.{Chain}
use Rattle.model.specs.declared.State.{State}
use Rattle.model.specs.declared.Refusal.{Refusal}
use Rattle.model.specs.declared.Refusal.TheVariants as refusal
use Rattle.std.specs.Prelude.{Ok, Err}
use Rattle.run_laws.specs.Accepted.{Accepted}
use Rattle.loop_laws.specs.Standings.{counting}
use Rattle.model.specs.Grounds.{Ground}
use Rattle.grid_laws.proofs.ChainLaws.{ground_flat}
use Rattle.run_prepare.proofs.ReadyLaws.{judged_refused, judged_short, judged_bad, judged_fine}
use Rattle.runner.specs.declared.Stopped.{Stopped}
use Rattle.runner.specs.Clocks.{call_of, Ends}
use Rattle.runner.specs.Runs.{ran_of}

-- Of a rectangle whatever is lent beside it plays no part.
pub run_none_lent : (c : Chain) → c.grid.skewed ≡ false → (rows : List ℕ) (s : State) (store lent output : List ℕ) (allowance : ℕ)
    → run_of c [] s store lent output allowance ≡ run_of c rows s store lent output allowance
unfolding run_of trimmed
run_none_lent c flat rows s store lent output allowance = ap (λ (g : Ground). run_trimmed (record {
  dims = dims_of c.grid;
  the_ground = g;
  count = c.window.count;
  offsets = offsets_of (dims_of c.grid) c.window;
  part = part_of (dims_of c.grid) c.bounds;
  capacities = capacities_of c;
  ordered = c.order.stood;
  order = order_of c.window.count c.order;
  kernel = c.kernel;
}) s store lent output allowance) (ground_flat c.grid flat [] ∙ sym (ground_flat c.grid flat rows))

module _ (c : Chain) (rows : List ℕ) (s : State) (store lent output : List ℕ) (allowance : ℕ) where
  -- What a refusal leaves.
  abbrev refused_run : Refusal → Run
  refused_run x = record { answer = Err x; state = s; store = store; output = output }

  -- What a call that ends leaves.
  abbrev ended_run : Ended → Run
  ended_run e = record {
    answer = Ok (outcome_of e.ending e.standing.done);
    state = with_counters s e.standing.counters;
    store = e.standing.store;
    output = e.standing.output;
  }

  pub by_refusal : (x : Refusal) → judge_run (trimmed c rows) s store ≡ Err x → refused_run x ≡ run_of c rows s store lent output allowance
  unfolding run_of run_trimmed
  by_refusal x e = rw e

  by_end : judge_run (trimmed c rows) s store ≡ Ok tt → ended_run (ended (trimmed c rows) s store lent output allowance) ≡ run_of c rows s store lent output allowance
  unfolding run_of run_trimmed
  by_end e = rw e

  -- 3 to 9 and 14 to 16.
  pub run_refused : (x : Refusal) → judge_chain c rows ≡ Err x → refused_run x ≡ run_of c rows s store lent output allowance
  run_refused x e = by_refusal x (judged_refused c rows s store x e)

  module _ (ok : Accepted (trimmed c rows)) where
    -- 10.
    pub run_short : short_store (trimmed c rows) store ≡ true → refused_run refusal.ShortStore ≡ run_of c rows s store lent output allowance
    run_short e = by_refusal refusal.ShortStore (judged_short c rows s store ok e)

    module _ (long : short_store (trimmed c rows) store ≡ false) where
      -- 11.
      pub run_bad : bad_state (layout (trimmed c rows)) (counters_of c.window.count s) ≡ true → refused_run refusal.BadState ≡ run_of c rows s store lent output allowance
      run_bad e = by_refusal refusal.BadState (judged_bad c rows s store ok long e)

      -- The call is not refused.
      pub run_ends : bad_state (layout (trimmed c rows)) (counters_of c.window.count s) ≡ false
          → ended_run (ended (trimmed c rows) s store lent output allowance) ≡ run_of c rows s store lent output allowance
      run_ends good = by_end (judged_fine c rows s store ok long good)

  -- The counters of the state in an array.
  module _ (fired : ℕ) (passed : List ℕ) (e : fired ≡ s.fired.0) (p : take c.window.count passed ≡ (counters_of c.window.count s).passed) where
    counters_there : ◌≡◌ {A = Counters} (counting fired (take c.window.count passed)) (counters_of c.window.count s)
    unfolding counters_of
    counters_there = λ i. record { fired = e i; passed = p i }

    -- The clocks are those of the call's definition.
    same_call : call_of (trimmed c rows) c.window.count fired passed store lent output allowance ≡ ended (trimmed c rows) s store lent output allowance
    unfolding ended begun trimmed
    same_call =
        ap (λ (k : Counters). call (layout (trimmed c rows)) (written_by (trimmed c rows)) (width_of (trimmed c rows)) lent allowance
        (record { counters = k; store = store; output = output; done = record { cells = 0; firings = 0; clocks = 0 } })) counters_there

    -- What the clocks leave is what the call leaves.
    pub run_ended : judge_run (trimmed c rows) s store ≡ Ok tt → (r : Stopped) (passed' store' output' : List ℕ) (after : State)
        → Ends r (call_of (trimmed c rows) c.window.count fired passed store lent output allowance) c.window.count passed passed' store' output'
        → after ≡ with_counters s (record { fired = r.fired.0; passed = take c.window.count passed' })
        → ran_of (record { answer = Ok r.outcome; state = after }) store' output' ≡ run_of c rows s store lent output allowance
    run_ended j r passed' store' output' after E a = left ∙ ap ended_run same_call ∙ by_end j
      where
        made : Ended
        made = call_of (trimmed c rows) c.window.count fired passed store lent output allowance

        counted : ◌≡◌ {A = Counters} (record { fired = r.fired.0; passed = take c.window.count passed' }) made.standing.counters
        counted = λ i. record { fired = E.fired i; passed = E.counters i }

        left : ran_of (record { answer = Ok r.outcome; state = after }) store' output' ≡ ended_run made
        left = λ i. record { answer = Ok (E.outcome i); state = (a ∙ ap (with_counters s) counted) i; store = E.store i; output = E.output i }
