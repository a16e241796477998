-- The other promises of document 01, "Running" and "Turned back".
use Rattle.std.specs.Prelude.{ℕ, ◌+◌, ◌-◌, ◌*◌, ◌≤◌, ◌<◌, true, false, List, [], ◌∷◌, ◌⊎◌, ◌≡◌, length, take, drop, Ok, Err}
use Rattle.model.specs.Values.{Trimmed, Same}
use Rattle.model.specs.Answers.{no_counts, answer_number, answer_counts}
use Rattle.model.specs.Judging.{judge_chain}
use Rattle.model_run.specs.Running.{layout, counters_of, width_of, short_store, Ending, outcome_of, Run, run_of}
use Rattle.model_run.specs.CallLists.{Lending, Between, LentEnough, call_run, after, after_all, all_words, clocks_made}
use Rattle.model_run.specs.CallLists.{firings_made}
use Rattle.model.specs.declared.Chain.{Chain}
use Rattle.model.specs.declared.State.{State}
use Rattle.model.specs.declared.Refusal.{Refusal}
use Rattle.model.specs.declared.Outcome.TheVariants as outcome
use Rattle.model_run.specs.Reports.{Reports, firings_of, clocks_of}
use Rattle.demands.specs.Demand3.{ListOfCalls, runs_of, handed_on, one_more, chain_in}

-- A call's lending has a clock, a cell, places for a firing and a store that 10 does not refuse.
pub record Piece (t : Trimmed) (l : Lending) (b : Between) : Type 0 where
  pub clock : 0 < l.allowance
  pub cell : 0 < l.cells
  pub places : width_of t ≤ length l.output
  pub store : short_store t (take l.front b.store) ≡ false

-- The run ends Done or Stalled.
abbrev pub Over : Run → Type 0
Over r = Reports outcome.Done r ⊎ Reports outcome.Stalled r

module _ (q : ListOfCalls) where
  -- Clocks made is "over a whole run at most n times the number of cells".
  abbrev pub FewClocks : Type 0
  FewClocks = clocks_made (runs_of q) ≤ (chain_in q).count * (layout (chain_in q)).cells

  -- A state that the list reaches is never refused by 11: of all numbers only 10 turns a call of it back, and only where the
  -- store that is lent is short.
  abbrev pub NeverStale : Type 0
  NeverStale = (l : Lending) → (answer_number (one_more q l).answer ≡ 0)
      ⊎ ((answer_number (one_more q l).answer ≡ 10) × (short_store (chain_in q) (take l.front (handed_on q).store) ≡ true))

  -- "A call lent a clock, a cell, places for a firing and such a store makes a clock unless it ends Done or Stalled".
  abbrev pub MakesClock : Type 0
  MakesClock = (l : Lending) → Piece (chain_in q) l (handed_on q) → (0 < clocks_of (one_more q l)) ⊎ Over (one_more q l)

  -- The call m after the call l.
  abbrev pub again : (l m : Lending) → Run
  again l m = call_run (chain_in q) q.stream m (after (chain_in q) q.stream l (handed_on q))

  abbrev pub again_store : (l m : Lending) → List ℕ
  again_store l m = take m.front (after (chain_in q) q.stream l (handed_on q)).store

  -- "Calling again after Done or Stalled gives the same outcome with zeros, unless an earlier line of the list applies." The
  -- line before Stalled are Spent, with no clock allowed, and Starved, with no cell lent.
  pub record Again (l m : Lending) : Type 0 where
    pub done : Reports outcome.Done (one_more q l) → short_store (chain_in q) (again_store l m) ≡ false
        → (again l m).answer ≡ Ok (outcome.Done no_counts)
    pub stalled : Reports outcome.Stalled (one_more q l) → short_store (chain_in q) (again_store l m) ≡ false → 0 < m.allowance
        → 0 < m.cells
        → (again l m).answer ≡ Ok (outcome.Stalled no_counts)
    pub spent : Reports outcome.Stalled (one_more q l) → short_store (chain_in q) (again_store l m) ≡ false → m.allowance ≡ 0
        → (again l m).answer ≡ Ok (outcome.Spent no_counts)
    pub starved : Reports outcome.Stalled (one_more q l) → short_store (chain_in q) (again_store l m) ≡ false → 0 < m.allowance
        → m.cells ≡ 0
        → (again l m).answer ≡ Ok (outcome.Starved no_counts)

-- Two lists of calls on one chain and one stream.
pub record SameRun (p q : ListOfCalls) : Type 0 where
  pub chain : chain_in p ≡ chain_in q
  pub stream : p.stream ≡ q.stream

-- Both report the same of the five outcomes.
pub record SameOutcome (r x : Run) : Type 0 where
  pub ending : Ending
  pub first : Reports (outcome_of ending) r
  pub second : Reports (outcome_of ending) x

-- Two lists, each with one more call, end alike.
pub record EndAlike (p q : ListOfCalls) (l m : Lending) : Type 0 where
  pub clocks : clocks_made (runs_of p) + clocks_of (one_more p l) ≡ clocks_made (runs_of q) + clocks_of (one_more q m)
  pub firings : firings_made (runs_of p) + firings_of (one_more p l) ≡ firings_made (runs_of q) + firings_of (one_more q m)
  pub counters : counters_of (chain_in p).count (one_more p l).state ≡ counters_of (chain_in q).count (one_more q m).state
  pub outcome : SameOutcome (one_more p l) (one_more q m)

-- Two lists that start with the same state, which has a counter for each filter, and the same store.
pub record SameStart (p q : ListOfCalls) : Type 0 where
  pub start : p.start ≡ q.start
  pub long : (chain_in p).count ≤ length p.start.state.passed

-- "A run split over calls makes the same firings, clocks and end state as one call": two lists that made equally many clocks
-- stand at the same counters, and made the same firings and words; if they started alike, they hand on the same state,
-- counters past n among it, and the same store; and two lists, each with one more call that is lent enough, end alike. (One
-- of them may be empty, so that its one more call is the whole run.)
pub record Split (p q : ListOfCalls) : Type 0 where
  pub counters : SameRun p q → clocks_made (runs_of p) ≡ clocks_made (runs_of q)
      → counters_of (chain_in p).count (handed_on p).state ≡ counters_of (chain_in q).count (handed_on q).state
  pub firings : SameRun p q → clocks_made (runs_of p) ≡ clocks_made (runs_of q)
      → firings_made (runs_of p) ≡ firings_made (runs_of q)
  pub words : SameRun p q → clocks_made (runs_of p) ≡ clocks_made (runs_of q)
      → all_words (chain_in p) p.stream p.calls p.start ≡ all_words (chain_in q) q.stream q.calls q.start
  pub handed_on_lem : SameRun p q → SameStart p q → clocks_made (runs_of p) ≡ clocks_made (runs_of q) → handed_on p ≡ handed_on q
  pub ends : SameRun p q → (l m : Lending) → LentEnough (chain_in p) l (handed_on p) → LentEnough (chain_in q) m (handed_on q)
      → EndAlike p q l m

-- In place of the call l first m, which is lent no more of anything, then n, which is lent what m left over; none of the
-- three is refused.
pub record InPlaceOf (q : ListOfCalls) (l m n : Lending) : Type 0 where
  pub cells : m.cells ≤ l.cells
  pub places : length m.output ≤ length l.output
  pub clocks : m.allowance ≤ l.allowance
  pub other_cells : n.cells ≡ l.cells - (answer_counts (one_more q m).answer).cells
  pub other_places : length n.output ≡ length l.output - firings_of (one_more q m) * width_of (chain_in q)
  pub other_clocks : n.allowance ≡ l.allowance - clocks_of (one_more q m)
  pub store : short_store (chain_in q) (take l.front (handed_on q).store) ≡ false
  pub first_store : short_store (chain_in q) (take m.front (handed_on q).store) ≡ false
  pub second_store : short_store (chain_in q) (again_store q m n) ≡ false

-- The same sentence of a single call, whatever it is lent and ends with: the two make its clocks and firings, come to its
-- counters, report its outcome, write its words and, where the state has a counter for each filter, hand on its state and its
-- store.
pub record InTwo (q : ListOfCalls) (l m n : Lending) : Type 0 where
  pub clocks : clocks_of (one_more q l) ≡ clocks_of (one_more q m) + clocks_of (again q m n)
  pub firings : firings_of (one_more q l) ≡ firings_of (one_more q m) + firings_of (again q m n)
  pub counters : counters_of (chain_in q).count (one_more q l).state ≡ counters_of (chain_in q).count (again q m n).state
  pub outcome : SameOutcome (one_more q l) (again q m n)
  pub words : all_words (chain_in q) q.stream (l ∷ []) (handed_on q) ≡ all_words (chain_in q) q.stream (m ∷ n ∷ []) (handed_on q)
  pub handed_on_lem : (chain_in q).count ≤ length q.start.state.passed
      → after_all (chain_in q) q.stream (l ∷ []) (handed_on q) ≡ after_all (chain_in q) q.stream (m ∷ n ∷ []) (handed_on q)

module _ (t : Trimmed) (stream : ℕ → ℕ) where
  -- Each call of a list has such a lending.
  abbrev pub Pieces : List Lending → Between → Type 0
  Pieces [] b = Unit {0}
  Pieces (l ∷ ls) b = Piece t l b × Pieces ls (after t stream l b)

-- "so runs fed in small pieces end alike": two lists, each with one more call that ends Done or Stalled, end alike; and after
-- n times the number of cells such calls one more does end so.
pub record SmallPieces : Type 0 where
  pub alike : (p q : ListOfCalls) → SameRun p q → (l m : Lending) → Over (one_more p l) → Over (one_more q m) → EndAlike p q l m
  pub over : (q : ListOfCalls) → Pieces (chain_in q) q.stream q.calls q.start
      → (chain_in q).count * (layout (chain_in q)).cells ≤ length q.calls
      → (l : Lending) → Piece (chain_in q) l (handed_on q) → Over (one_more q l)

-- A refused call, of any chain and any state, changes nothing and counts 0.
abbrev pub RefusedKeeps : Type 0
RefusedKeeps = (c : Chain) (rows : List ℕ) (s : State) (store lent output : List ℕ) (allowance : ℕ) (x : Refusal)
    → (run_of c rows s store lent output allowance).answer ≡ Err x
    → ((run_of c rows s store lent output allowance).state ≡ s)
    × ((run_of c rows s store lent output allowance).store ≡ store)
    × ((run_of c rows s store lent output allowance).output ≡ output)
    × (answer_counts (run_of c rows s store lent output allowance).answer ≡ no_counts)

-- Two runs with the same answer, store and output, which hand back the same counters of n filters.
pub record RunsAlike (n : ℕ) (r x : Run) : Type 0 where
  pub answer : r.answer ≡ x.answer
  pub store : r.store ≡ x.store
  pub output : r.output ≡ x.output
  pub counters : counters_of n r.state ≡ counters_of n x.state

-- "input counters past n play no part": states with the same firings and the same counters of the n filters are run alike,
abbrev pub NoPart : Type 0
NoPart = (c : Chain) (rows : List ℕ) (s s' : State) (store lent output : List ℕ) (allowance : ℕ)
    → counters_of c.window.count s ≡ counters_of c.window.count s'
    → RunsAlike c.window.count (run_of c rows s store lent output allowance) (run_of c rows s' store lent output allowance)

-- "and are handed back as they came"
abbrev pub PastCount : Type 0
PastCount = (c : Chain) (rows : List ℕ) (s : State) (store lent output : List ℕ) (allowance : ℕ)
    → drop c.window.count (run_of c rows s store lent output allowance).state.passed ≡ drop c.window.count s.passed

-- "chains that differ only there are the same": they are judged and run alike.
abbrev pub Alike : Type 0
Alike = (c d : Chain) (rows rows' : List ℕ) → Same c rows d rows'
    → (judge_chain c rows ≡ judge_chain d rows')
    × ((s : State) (store lent output : List ℕ) (allowance : ℕ)
    → run_of c rows s store lent output allowance ≡ run_of d rows' s store lent output allowance)

-- All of them.
pub record Promises : Type 0 where
  pub few_clocks : (q : ListOfCalls) → FewClocks q
  pub never_stale : (q : ListOfCalls) → NeverStale q
  pub makes_clock : (q : ListOfCalls) → MakesClock q
  pub again : (q : ListOfCalls) (l m : Lending) → Again q l m
  pub split : (p q : ListOfCalls) → Split p q
  pub in_two : (q : ListOfCalls) (l m n : Lending) → InPlaceOf q l m n → InTwo q l m n
  pub small_pieces : SmallPieces
  pub refused_keeps : RefusedKeeps
  pub no_part : NoPart
  pub past_count : PastCount
  pub alike : Alike
