-- A run call on any state that no number turns back, not only on one that a list of calls reaches (document 01, "Running").
use Rattle.std.specs.Prelude.{ℕ, ◌+◌, ◌*◌, ◌≤◌, ◌<◌, true, false, List, ◌↔◌, ◌≡◌, length, drop, Ok}
use Rattle.model.specs.Lists.{sum}
use Rattle.model.specs.Values.{Trimmed, trimmed}
use Rattle.model.specs.Iterations.{iterations_of}
use Rattle.model.specs.Answers.{no_counts, answer_counts}
use Rattle.model_run.specs.Clock.{Counters, fires, moves}
use Rattle.model_run.specs.Running.{layout, counters_of, Ending, Done, Spent, Starved, Stalled, Full, outcome_of, short_store}
use Rattle.model_run.specs.Running.{judge_run, width_of, Run, run_of}
use Rattle.model.specs.declared.Chain.{Chain}
use Rattle.model.specs.declared.State.{State}
use Rattle.model.specs.declared.Counts.{Counts}
use Rattle.model.specs.declared.Outcome.TheVariants as outcome
use Rattle.model_run.specs.Reports.{Reports, firings_of}

-- What a call lends.
pub record Lent : Type 0 where
  pub store : List ℕ
  pub cells : List ℕ
  pub output : List ℕ
  pub allowance : ℕ

-- What each of the five outcomes says of the end of a call that did so much and stands at these counters.
abbrev pub Means : Trimmed → Lent → Counters → Counts → Ending → Type 0
Means t l now did Done = now.fired ≡ iterations_of t
Means t l now did Spent = (now.fired < iterations_of t) × (did.clocks ≡ l.allowance)
Means t l now did Starved = (now.fired < iterations_of t) × (did.clocks < l.allowance) × (did.cells ≡ length l.cells)
Means t l now did Stalled = (now.fired < iterations_of t) × (did.clocks < l.allowance) × (did.cells < length l.cells)
    × (moves (layout t) now ≡ false)
Means t l now did Full =
    (now.fired < iterations_of t) × (did.clocks < l.allowance) × (did.cells < length l.cells)
    × (fires (layout t) now ≡ true)
    × (length l.output < did.firings * width_of t + width_of t)

module _ (c : Chain) (rows : List ℕ) (s : State) (l : Lent) where
  abbrev pub run : Run
  run = run_of c rows s l.store l.cells l.output l.allowance

  -- No more clocks than allowed, cells than lent and words than places.
  pub record Within : Type 0 where
    pub clocks : (answer_counts run.answer).clocks ≤ l.allowance
    pub cells : (answer_counts run.answer).cells ≤ length l.cells
    pub places : firings_of run * width_of (trimmed c rows) ≤ length l.output

  -- The lengths of store and output stay, and so do the words past the FIFOs' places and the output's places past the
  -- firings' words.
  pub record Kept : Type 0 where
    pub store_length : length run.store ≡ length l.store
    pub store_rest : drop (sum (trimmed c rows).capacities) run.store ≡ drop (sum (trimmed c rows).capacities) l.store
    pub output_length : length run.output ≡ length l.output
    pub output_rest : drop (firings_of run * width_of (trimmed c rows)) run.output
        ≡ drop (firings_of run * width_of (trimmed c rows)) l.output

  -- One more call, on the state that is handed back.
  abbrev pub once_more : Lent → Run
  once_more m = run_of c rows run.state m.store m.cells m.output m.allowance

  -- "Calling again after Done or Stalled gives the same outcome with zeros, unless an earlier line of the list applies", as
  -- `Again` in `Promises`.
  pub record CalledAgain (m : Lent) : Type 0 where
    pub done : Reports outcome.Done run → short_store (trimmed c rows) m.store ≡ false
        → (once_more m).answer ≡ Ok (outcome.Done no_counts)
    pub stalled : Reports outcome.Stalled run → short_store (trimmed c rows) m.store ≡ false → 0 < m.allowance
        → 0 < length m.cells
        → (once_more m).answer ≡ Ok (outcome.Stalled no_counts)
    pub spent : Reports outcome.Stalled run → short_store (trimmed c rows) m.store ≡ false → m.allowance ≡ 0
        → (once_more m).answer ≡ Ok (outcome.Spent no_counts)
    pub starved : Reports outcome.Stalled run → short_store (trimmed c rows) m.store ≡ false → 0 < m.allowance
        → length m.cells ≡ 0
        → (once_more m).answer ≡ Ok (outcome.Starved no_counts)

-- A call that no number turns back reports an outcome exactly if its end is what the outcome says; and the state and the
-- store that it hands back are not turned back either.
pub record AnyState (c : Chain) (rows : List ℕ) (s : State) (l : Lent) : Type 0 where
  pub within : Within c rows s l
  pub kept : Kept c rows s l
  pub outcome : (e : Ending) → Reports (outcome_of e) (run c rows s l)
      ↔ Means (trimmed c rows) l (counters_of (trimmed c rows).count (run c rows s l).state)
      (answer_counts (run c rows s l).answer) e
  pub accepted : judge_run (trimmed c rows) (run c rows s l).state (run c rows s l).store ≡ Ok tt
  pub again : (m : Lent) → CalledAgain c rows s l m

abbrev pub AnyStates : Type 0
AnyStates = (c : Chain) (rows : List ℕ) (s : State) (l : Lent) → judge_run (trimmed c rows) s l.store ≡ Ok tt
    → AnyState c rows s l
