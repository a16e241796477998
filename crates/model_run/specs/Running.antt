-- A run call (document 01, "Running" and "Turned back on account of the state").
use Rattle.std.specs.Prelude.{ℕ, zero, suc, ◌+◌, ◌-◌, ◌*◌, Bool, false, not, cond, ◌&&◌, ◌||◌, List, [], ◌∷◌, ◌++◌, map, eqb, ltb, leb, length, get_or, drop}
use Rattle.std.proofs.lemmas.List.Edits.{sets}
use Rattle.model.specs.Lists.{tabulate, up_to, sum}
use Rattle.model.specs.Values.{Trimmed, trimmed}
use Rattle.model.specs.Iterations.{cells_of, iterations_of, reads_of}
use Rattle.model.specs.Answers.{Verdict, Answer, check, first_of, by_verdict}
use Rattle.model.specs.Judging.{value_checks}
use Rattle.model_run.specs.Kernels.{written, width, terms}
use Rattle.model.specs.Windows.{centre_of}
use Rattle.model_run.specs.Clock.{Layout, Counters, first, fires, next, moves}
use Rattle.model_run.specs.Store.{presented, stored}
use Rattle.model.specs.declared.CellsPassed.{CellsPassed}
use Rattle.model.specs.declared.Chain.{Chain}
use Rattle.model.specs.declared.State.{State}
use Rattle.model.specs.declared.Counts.{Counts}
use Rattle.model.specs.declared.Outcome.{Outcome}
use Rattle.model.specs.declared.Outcome.TheVariants as outcome
use Rattle.model.specs.declared.Refusal.TheVariants as refusal
use Rattle.std.specs.Prelude.{Ok, Err}

-- A chain as numbers. "A filter wants a cell if .. it is the cell its reference reads in the next iteration."
unfoldable pub layout : Trimmed → Layout
layout t =
    let iterations = iterations_of t in
    let cells = cells_of t in
    record {
      wants = λ j k. cond (ltb j iterations) (reads_of t j k) cells;
      capacity = λ k. get_or t.capacities k 0;
      filters = t.count;
      cells = cells;
      iterations = iterations;
    }

-- The counters of a state, where there are n filters.
unfoldable pub counters_of : ℕ → State → Counters
counters_of n s = record { fired = s.fired.0; passed = tabulate n (λ k. (get_or s.passed k (record { 0 = 0 })).0) }

-- The state with other counters: "input counters past n play no part and are handed back as they came".
unfoldable pub with_counters : State → Counters → State
with_counters s c = record {
  passed = map (λ (p : ℕ). let passed : CellsPassed = record { 0 = p } in passed) c.passed
      ++ drop (length c.passed) s.passed;
  fired = record { 0 = c.fired };
}

-- Where a call stands: the counters, the store and the output as they are now, and what the call did so far.
pub record Standing : Type 0 where
  pub counters : Counters
  pub store : List ℕ
  pub output : List ℕ
  pub done : Counts

-- The five ways in which a call that is not refused ends, in the order in which they are looked at.
pub data Ending : Type 0 where
  Done Spent Starved Stalled Full : Ending

unfoldable pub outcome_of : Ending → Counts → Outcome
outcome_of Done c = outcome.Done c
outcome_of Spent c = outcome.Spent c
outcome_of Starved c = outcome.Starved c
outcome_of Stalled c = outcome.Stalled c
outcome_of Full c = outcome.Full c

-- What a look before a clock finds: the clock is made, or the call ends.
pub data Look : Type 0 where
  goes : Look
  ends : Ending → Look

pub record Ended : Type 0 where
  pub ending : Ending
  pub standing : Standing

abbrev pub by_look : Look → Standing → Ended → Ended
by_look goes s rest = rest
by_look (ends e) s rest = record { ending = e; standing = s }

-- Nothing, once the call has ended.
abbrev pub while_going : Look → List Bool → List Bool
while_going goes es = es
while_going (ends e) es = []

-- `write`: what a firing writes of the words of its cells, `size` words; `lent`: the lent cells' words.
module _ (L : Layout) (write : List ℕ → List ℕ) (size : ℕ) (lent : List ℕ) where
  -- The words presented to the filters.
  unfoldable pub words : Standing → List ℕ
  words s = presented L.capacity 0 (get_or lent s.done.cells 0) s.store s.counters.passed

  -- One clock with its words.
  unfoldable pub clocked : Standing → Standing
  clocked s =
      let now = s.counters in
      let then = next L now in
      let fired = fires L now in
      record {
        counters = then;
        store = stored L.capacity 0 (get_or lent s.done.cells 0) s.store now.passed then.passed s.store;
        output = cond fired (sets s.output (s.done.firings * size) (write (words s))) s.output;
        done = record {
          cells = s.done.cells + (first then.passed - first now.passed);
          firings = cond fired (suc s.done.firings) s.done.firings;
          clocks = suc s.done.clocks;
        };
      }

  -- "Before each clock these are looked at in this order". `left`: what is left of the allowance.
  unfoldable pub look : (left : ℕ) → Standing → Look
  look left s =
      cond (leb L.iterations s.counters.fired) (ends Done)
      (cond (eqb left 0) (ends Spent)
      (cond (leb (length lent) s.done.cells) (ends Starved)
      (cond (not (moves L s.counters)) (ends Stalled)
      (cond (fires L s.counters && ltb (length s.output) (s.done.firings * size + size)) (ends Full) goes))))

  -- The call from here on.
  unfoldable pub call : (left : ℕ) → Standing → Ended
  call zero s = by_look (look zero s) s (record { ending = Spent; standing = s })
  call (suc left) s =
      let rest = call left (clocked s) in
      by_look (look (suc left) s) s rest

  -- An event for each clock that the call makes: whether it fires.
  unfoldable pub events : (left : ℕ) → Standing → List Bool
  events zero s = []
  events (suc left) s =
      let rest = events left (clocked s) in
      while_going (look (suc left) s) (fires L s.counters ∷ rest)

-- 10: "the store has fewer words than the capacities' sum"
unfoldable pub short_store : Trimmed → (store : List ℕ) → Bool
short_store t store = ltb (length store) (sum t.capacities)

-- 11: "an input counter past its next wanted cell, not past its last fired one, above the cell count". A counter is past cell
-- p if it is above p.
unfoldable pub not_past : Layout → (fired k p : ℕ) → Bool
not_past L zero k p = false
not_past L (suc f) k p = leb p (L.wants f k)

unfoldable pub bad_counter : Layout → (fired k p : ℕ) → Bool
bad_counter L f k p = ltb (L.wants f k) p || (not_past L f k p || ltb L.cells p)

-- "or below the next filter's; or a FIFO over its capacity"
unfoldable pub bad_fifo : Layout → (k p : ℕ) → List ℕ → Bool
bad_fifo L k p [] = false
bad_fifo L k p (q ∷ qs) = ltb p q || ltb (q + L.capacity k) p

-- The filters from k on, which stand at the list.
unfoldable pub bad_filters : Layout → (fired k : ℕ) → List ℕ → Bool
bad_filters L f k [] = false
bad_filters L f k (p ∷ ps) = bad_counter L f k p || (bad_fifo L k p ps || bad_filters L f (suc k) ps)

-- 11: "more firings than iterations; or .."
unfoldable pub bad_state : Layout → Counters → Bool
bad_state L s = ltb L.iterations s.fired || bad_filters L s.fired 0 s.passed

-- "A run looks at the chain first, then 10, then 11."
unfoldable pub judge_run : Trimmed → State → (store : List ℕ) → Verdict
judge_run t s store =
    let store = check (short_store t store) refusal.ShortStore in
    let state = check (bad_state (layout t) (counters_of t.count s)) refusal.BadState in
    first_of (value_checks t ++ (store ∷ state ∷ []))

-- What a call leaves: its answer, the state, and the store and the output that it was lent.
pub record Run : Type 0 where
  pub answer : Answer
  pub state : State
  pub store : List ℕ
  pub output : List ℕ

-- Where a call begins.
unfoldable pub begun : Trimmed → State → (store output : List ℕ) → Standing
begun t s store output = record {
  counters = counters_of t.count s;
  store = store;
  output = output;
  done = record { cells = 0; firings = 0; clocks = 0 };
}

-- The filters in the author's order; "Without the line, terms go in chain order as before."
unfoldable pub filters_of : Trimmed → List ℕ
filters_of t = cond t.ordered t.order (up_to t.count)

-- The filters whose words the kernel adds, in this order, and those whose words raw writes: "raw outputs keep chain order".
unfoldable pub terms_of : Trimmed → List ℕ
terms_of t = terms t.kernel (centre_of t.offsets) (filters_of t)

unfoldable pub writes_of : Trimmed → List ℕ
writes_of t = up_to t.count

-- What a firing writes of its cells' words.
unfoldable pub written_by : Trimmed → List ℕ → List ℕ
written_by t ws = written t.kernel (centre_of t.offsets) (terms_of t) (writes_of t) ws

-- How many words that is.
unfoldable pub width_of : Trimmed → ℕ
width_of t = width t.kernel t.count

module _ (t : Trimmed) (s : State) (store lent output : List ℕ) (allowance : ℕ) where
  -- The call, where it is not refused.
  unfoldable pub ended : Ended
  ended = call (layout t) (written_by t) (width_of t) lent allowance (begun t s store output)

  -- "After each refusal .. every lent buffer and the state are as before, and cells taken, firings and clocks are 0."
  unfoldable pub run_trimmed : Run
  run_trimmed =
      let e = ended in
      by_verdict (judge_run t s store)
      (record {
        answer = Ok (outcome_of e.ending e.standing.done);
        state = with_counters s e.standing.counters;
        store = e.standing.store;
        output = e.standing.output;
      })
      (λ r. record { answer = Err r; state = s; store = store; output = output })

  -- The events of the call's clocks: none where it is refused.
  unfoldable pub events_trimmed : List Bool
  events_trimmed =
      let es = events (layout t) (written_by t) (width_of t) lent allowance (begun t s store output) in
      by_verdict (judge_run t s store) es (λ r. [])

-- A run call. What of the chain plays a part is what is left of it trimmed.
unfoldable pub run_of : Chain → (rows : List ℕ) → State → (store lent output : List ℕ) → (allowance : ℕ) → Run
run_of c rows s store lent output allowance = run_trimmed (trimmed c rows) s store lent output allowance
