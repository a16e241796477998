-- A run of a chain call by call.
use Rattle.std.specs.Prelude.{ℕ, zero, suc, ◌+◌, ◌*◌, ◌%◌, ◌^◌, Bool, true, false, cond, ◌||◌, List, ◌++◌, take, drop, replicate, ◌==◌, nat_lt}
use Rattle.std.specs.Prelude.{Ok, Err}
use Rattle.model.specs.declared.Chain.{Chain}
use Rattle.model.specs.declared.State.{State}
use Rattle.model.specs.Answers.{Answer, answer_counts, outcome_case}
use Rattle.model_run.specs.Running.{Run as Left, run_of}
use Rattle.case_runs.specs.declared.FirstFiring.{FirstFiring}
use Rattle.case_runs.specs.declared.Run.{Run}
use Rattle.case_runs.specs.declared.Share.{Share}

abbrev pub fresh : State
fresh = record { passed = replicate 32 (record { 0 = 0 }); fired = record { 0 = 0 } }

-- A run of no calls yet.
abbrev pub started_from : State → Run
started_from s = record {
  state = s;
  calls = 0;
  cells = 0;
  firings = 0;
  clocks = 0;
  words = 0;
  done = false;
  spent = false;
  starved = false;
  full = false;
  broken = false;
}

abbrev pub begun : Run
begun = started_from fresh

-- All that a call with its share leaves; places past those that it is lent are as before.
unfoldable pub lent : Chain → (rows : List ℕ) → State → Share → (cells store output : List ℕ) → Left
lent c rows s h cells store output =
    let l = run_of c rows s store (take h.count (drop h.from cells)) (take h.places output) h.clocks in
    record { answer = l.answer; state = l.state; store = l.store; output = l.output ++ drop h.places output }

abbrev pub one_clock : (from : ℕ) → Share
one_clock from = record { from = from; count = 1; places = 32; clocks = 1 }

-- The counts up to a run's first firing, with the store and the output that its calls leave.
pub record Firsts : Type 0 where
  pub counts : FirstFiring
  pub store : List ℕ
  pub output : List ℕ

abbrev pub firsts : FirstFiring → (store output : List ℕ) → Firsts
firsts f store output = record { counts = f; store = store; output = output }

-- The clocks that a fresh run makes without an output place, and one clock more with places.
unfoldable pub first_firing : Chain → (rows cells store output : List ℕ) → Firsts
first_firing c rows cells store output =
    let l = lent c rows fresh (record { from = 0; count = 1048576; places = 0; clocks = 4294967295 }) cells store output in
    let before = answer_counts l.answer in
    let m = lent c rows l.state (one_clock before.cells) cells l.store l.output in
    firsts (record { before = before; next = answer_counts m.answer }) m.store m.output

-- How a call ended: the place of its outcome in document 01's list, 5 where it was refused.
unfoldable pub end_of : Answer → ℕ
unfolding outcome_case
end_of (Err r) = 5
end_of (Ok o) = outcome_case o

unfoldable pub after_call : Run → State → Answer → (width : ℕ) → Run
after_call r s a width =
    let c = answer_counts a in
    let e = end_of a in
    record {
      state = s;
      calls = (r.calls + 1) % 2 ^ 64;
      cells = (r.cells + c.cells) % 2 ^ 64;
      firings = (r.firings + c.firings) % 2 ^ 64;
      clocks = (r.clocks + c.clocks) % 2 ^ 64;
      words = c.firings * (width % 4294967296);
      done = r.done || (e == 0);
      spent = r.spent || (e == 1);
      starved = r.starved || (e == 2);
      full = r.full || (e == 4);
      broken = (r.broken || e == 3) || (e == 5);
    }

-- What a call is lent: all that is there, or pieces by its number.
unfoldable pub share_of : Bool → (call from : ℕ) → Share
share_of true call from = record
    { from = from; count = call % 211 * 37 % 211; places = call % 997 * 290 % 997; clocks = call % 199 * 53 % 199 }
share_of false call from = record { from = from; count = 1048576; places = 1048576; clocks = 4294967295 }

-- A run so far, with the store and the output that its calls are lent.
pub record Course : Type 0 where
  pub run : Run
  pub store : List ℕ
  pub output : List ℕ

abbrev pub course : Run → (store output : List ℕ) → Course
course r store output = record { run = r; store = store; output = output }

-- One call more.
unfoldable pub called : Chain → (rows : List ℕ) → Bool → (width : ℕ) → (cells : List ℕ) → Course → Course
called c rows pieces width cells k =
    let r = k.run in
    let l = lent c rows r.state (share_of pieces r.calls r.cells) cells k.store k.output in
    course (after_call r l.state l.answer width) l.store l.output

abbrev pub stopped : (words : ℕ) → (done broken : Bool) → Bool
stopped words done broken = (nat_lt 0 words || done) || broken

-- Calls until one has written a word, or the run has ended; at most n.
unfoldable pub called_on : (n : ℕ) → Chain → (rows : List ℕ) → Bool → (width : ℕ) → (cells : List ℕ) → Course → Course
called_on zero c rows pieces width cells k = k
called_on (suc n) c rows pieces width cells k =
    let l = called c rows pieces width cells k in
    cond (stopped l.run.words l.run.done l.run.broken) l (called_on n c rows pieces width cells l)
