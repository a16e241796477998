-- Two kernels on one chain (document 02, request 6): what a firing writes to each output, and the run call.
use Rattle.std.specs.Prelude.{ℕ, zero, suc, ◌*◌, ◌/◌, min, Bool, cond, List, [], ◌∷◌, ◌++◌, map, ℤ, length, take, drop, replicate}
use Rattle.std.proofs.lemmas.List.Edits.{sets}
use Rattle.model.specs.Lists.{up_to}
use Rattle.model.specs.Values.{Trimmed, trimmed, dims_of}
use Rattle.model.specs.Windows.{centre_of}
use Rattle.model.specs.Answers.{Verdict, Answer, check, first_of, by_verdict}
use Rattle.model.specs.Steps.{which_of}
use Rattle.model.specs.Pairs.{Own, own_of, member, raw_of, pair_checks}
use Rattle.model_run.specs.Kernels.{terms, words_at, written, width}
use Rattle.model_run.specs.Running.{layout, counters_of, with_counters, Standing, Ended, outcome_of, call, begun}
use Rattle.model_run.specs.Running.{short_store, bad_state, ended}
use Rattle.std.specs.Prelude.{Ok, Err}
use Rattle.model.specs.declared.Chain.{Chain}
use Rattle.model.specs.declared.Refusal.TheVariants as refusal
use Rattle.model.specs.declared.Side.{Side}
use Rattle.model.specs.declared.State.{State}

-- ---- what a firing writes

-- The filters that hold a window's references, in its author's order.
unfoldable pub held_by : Trimmed → Own → List ℕ
held_by t a = map (which_of t.offsets) a.offsets

-- The offsets that pass a test.
unfoldable pub kept : (List ℤ → Bool) → List (List ℤ) → List (List ℤ)
kept p [] = []
kept p (o ∷ os) = let behind = kept p os in cond (p o) (o ∷ behind) behind

-- The window's references in chain order, by their numbers in its author's.
unfoldable pub in_chain_order : Trimmed → Own → List ℕ
in_chain_order t a = map (which_of a.offsets) (kept (member a.offsets) t.offsets)

-- "what its kernel gives on its own window's cells, terms in that window's author's order, raw in chain order". `cells`: the
-- words of the window's references, in its author's order.
unfoldable pub own_gives : Trimmed → Own → (cells : List ℕ) → List ℕ
own_gives t a cells =
    let centre = centre_of a.offsets in
    written a.kernel centre (terms a.kernel centre (up_to a.count)) (in_chain_order t a) cells

-- `ws`: the words of all filters, in chain order.
unfoldable pub own_words : Trimmed → Own → List ℕ → List ℕ
own_words t a ws = own_gives t a (words_at (held_by t a) ws)

-- How many words that is.
unfoldable pub own_width : Own → ℕ
own_width a = width a.kernel a.count

-- The same of m firings whose words stand one after the other, n of each.
unfoldable pub by_rows : (n : ℕ) (write : List ℕ → List ℕ) → (m : ℕ) → List ℕ → List ℕ
by_rows n write zero ws = []
by_rows n write (suc m) ws = write (take n ws) ++ by_rows n write m (drop n ws)

-- ---- the run call

-- What a call of a pair leaves.
pub record PairRun : Type 0 where
  pub answer : Answer
  pub state : State
  pub store : List ℕ
  pub first : List ℕ
  pub second : List ℕ

-- "A run looks at the chain first, then 10, then 11."
unfoldable pub judge_pair : Trimmed → Own → Own → State → (store : List ℕ) → Verdict
judge_pair t a b s store =
    let store = check (short_store t store) refusal.ShortStore in
    let state = check (bad_state (layout t) (counters_of t.count s)) refusal.BadState in
    first_of (pair_checks t a b ++ (store ∷ state ∷ []))

-- How many firings an output has places for.
unfoldable pub room_for : Own → (output : List ℕ) → ℕ
room_for a output = length output / own_width a

module _ (t : Trimmed) (a b : Own) (s : State) (store lent first second : List ℕ) (allowance : ℕ) where
  -- "Full is shared: it comes if either output lacks places at a firing": document 01's call of the raw chain, lent places for
  -- as many firings as both outputs have.
  unfoldable pub pair_ended : Ended
  pair_ended = ended (raw_of t) s store lent (replicate (min (room_for a first) (room_for b second) * t.count) 0) allowance

  -- "Each firing writes to each output what its kernel gives", from the first place on.
  unfoldable pub pair_output : Own → List ℕ → List ℕ
  pair_output c output =
      let e = pair_ended in
      sets output 0 (by_rows t.count (own_words t c) e.standing.done.firings e.standing.output)

  unfoldable pub run_pair : PairRun
  run_pair =
      let e = pair_ended in
      let first' = pair_output a first in
      let second' = pair_output b second in
      by_verdict (judge_pair t a b s store)
      (record {
        answer = Ok (outcome_of e.ending e.standing.done);
        state = with_counters s e.standing.counters;
        store = e.standing.store;
        first = first';
        second = second';
      })
      (λ r. record { answer = Err r; state = s; store = store; first = first; second = second })

-- A run call of a pair: a chain with its rows, and two windows.
unfoldable pub run_pair_of : Chain → (rows : List ℕ) → Side → Side → State → (store lent first second : List ℕ)
    → (allowance : ℕ) → PairRun
run_pair_of c rows x y s store lent first second allowance =
    let a = own_of (dims_of c.grid) x in
    let b = own_of (dims_of c.grid) y in
    run_pair (trimmed c rows) a b s store lent first second allowance

-- ---- beside document 01's call

-- Document 01's call on this chain by one kernel alone, with its own output.
unfoldable pub own_call : Trimmed → Own → State → (store lent output : List ℕ) → (allowance : ℕ) → Ended
own_call t c s store lent output allowance =
    call (layout t) (own_words t c) (own_width c) lent allowance (begun t s store output)

-- A standing with another output.
abbrev pub onto : Standing → List ℕ → Standing
onto s o = record { counters = s.counters; store = s.store; output = o; done = s.done }
