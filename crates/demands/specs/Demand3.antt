-- Demand 3: one statement about a whole list of calls (document 01, "Running", last paragraph; document 02, request 5).
use Rattle.std.specs.Prelude.{ℕ, ◌+◌, ◌≤◌, ◌<◌, Bool, List, ◌↔◌, ◌≡◌, length, get_or, Ok}
use Rattle.model.specs.Grounds.Ground.{rectangle}
use Rattle.model.specs.Values.{Trimmed, trimmed}
use Rattle.model.specs.Iterations.{iterations_of, iteration_of, newest_of, clock_of}
use Rattle.model.specs.Judging.{judge_chain}
use Rattle.model_run.specs.Running.{Run}
use Rattle.model_run.specs.CallLists.{Lending, Between, Fresh, LentEnough, FiresIn, firings_among, call_run, after_all, runs}
use Rattle.model_run.specs.CallLists.{all_events, clocks_made, firings_made, cells_taken}
use Rattle.model.specs.declared.Chain.{Chain}
use Rattle.model.specs.declared.Outcome.TheVariants as outcome
use Rattle.grid_laws.specs.Right.{Falls, Right, Planned, FirstBlocked}
use Rattle.model_run.specs.Reports.{Reports, firings_of, Each}
use Rattle.demands.specs.Plan.{SameWindow}

-- A list of calls, perhaps empty, on one accepted chain: one that, handed over as a value, no number turns back. `stream` is
-- the word of each position. At `start` the state is fresh, its counters past n and the store are as they may be. Each call
-- lends what it likes; refused ones stay in the list and add 0.
pub record ListOfCalls : Type 0 where
  pub chain : Chain
  -- The rows, where the grid is skewed.
  pub rows : List ℕ
  pub accepted : judge_chain chain rows ≡ Ok tt
  pub stream : ℕ → ℕ
  pub start : Between
  pub fresh : Fresh (trimmed chain rows) start
  pub calls : List Lending

-- Of its chain all that plays a part.
abbrev pub chain_in : ListOfCalls → Trimmed
chain_in q = trimmed q.chain q.rows

module _ (q : ListOfCalls) where
  -- The runs of the list, the events of its clocks, what it hands on, and one more call.
  abbrev pub runs_of : List Run
  runs_of = runs (chain_in q) q.stream q.calls q.start

  abbrev pub events_of : List Bool
  events_of = all_events (chain_in q) q.stream q.calls q.start

  abbrev pub handed_on : Between
  handed_on = after_all (chain_in q) q.stream q.calls q.start

  abbrev pub one_more : Lending → Run
  one_more l = call_run (chain_in q) q.stream l handed_on

  -- Lent enough, one more call ends Done with every firing made exactly if order and capacities are right;
  pub record Finishes : Type 0 where
    pub exactly : (l : Lending) → LentEnough (chain_in q) l handed_on
        → Right (chain_in q)
        ↔ (Reports outcome.Done (one_more l) × (firings_made runs_of + firings_of (one_more l) ≡ iterations_of (chain_in q)))
    -- in that case no call of the list and not the last, whatever it is lent, reports Stalled.
    pub no_stall : Right (chain_in q)
        → Each (λ r. Reports outcome.Stalled r → ⊥) runs_of × ((l : Lending) → Reports outcome.Stalled (one_more l) → ⊥)

  -- The firings of the list and of one more call.
  abbrev pub made_with : Lending → ℕ
  made_with l = firings_made runs_of + firings_of (one_more l)

  -- "a shorter one makes every firing before the first that needs more, then stalls": every list, with one more call, makes
  -- at most B firings; lent enough, that call makes them exactly B and, where these are not all, reports Stalled; and no
  -- call, whatever it is lent, reports Stalled before, or where they are all.
  pub record StopsAt (B : ℕ) : Type 0 where
    pub at_most : (l : Lending) → made_with l ≤ B
    pub exactly : (l : Lending) → LentEnough (chain_in q) l handed_on → made_with l ≡ B
    pub stalled : B < iterations_of (chain_in q) → (l : Lending) → LentEnough (chain_in q) l handed_on
        → Reports outcome.Stalled (one_more l)
    pub not_before : (l : Lending) → Reports outcome.Stalled (one_more l) → (made_with l ≡ B) × (B < iterations_of (chain_in q))

  -- No call makes a firing, and the one more, lent enough, reports Stalled.
  pub record NeverFires : Type 0 where
    pub no_firing : Each (λ r. firings_of r ≡ 0) runs_of × ((l : Lending) → firings_of (one_more l) ≡ 0)
    pub stalled : (l : Lending) → LentEnough (chain_in q) l handed_on → Reports outcome.Stalled (one_more l)

  -- A chain that is not right: where its offsets fall, there is a first iteration that needs more, and it stops at that;
  -- where they do not, it never fires; and on a rectangle it never fires.
  pub record Stalls : Type 0 where
    pub first : (Right (chain_in q) → ⊥) → Falls (chain_in q)
        → (B : ℕ) × FirstBlocked (chain_in q) B × (B < iterations_of (chain_in q))
    pub shorter : Falls (chain_in q) → (B : ℕ) → FirstBlocked (chain_in q) B → StopsAt B
    pub disordered : (Falls (chain_in q) → ⊥) → NeverFires
    pub rectangular : (sizes : List ℕ) → (chain_in q).the_ground ≡ rectangle sizes → (Right (chain_in q) → ⊥) → NeverFires

  -- Clocks are numbered from 0 through all calls: there is an event for each, and as many of them fire as firings are made.
  pub record Numbered : Type 0 where
    pub clocks : length events_of ≡ clocks_made runs_of
    pub firings : firings_among events_of ≡ firings_made runs_of

  -- The state that is handed on counts the firings made and, at filter 0, the cells taken: both are sums over the list.
  pub record HandsOn : Type 0 where
    pub firings : handed_on.state.fired.0 ≡ firings_made runs_of
    pub cells : (get_or handed_on.state.passed 0 (record { 0 = 0 })).0 ≡ cells_taken runs_of

  -- What fires is an iteration: the firing's index is below their number.
  abbrev pub Indexed : Type 0
  Indexed = (j u : ℕ) → FiresIn events_of u j → j < iterations_of (chain_in q)

  -- An iteration has one clock, on every grid: whatever order, capacities and calls are, the list fires it in that clock or
  -- never; where order and capacities are right it has fired exactly those whose clock was made; and on a rectangle that
  -- clock is the newest cell's position.
  pub record InItsClock : Type 0 where
    pub clock : (j u : ℕ) → FiresIn events_of u j → u ≡ clock_of (chain_in q) j
    pub fired : Right (chain_in q) → (j : ℕ) → j < iterations_of (chain_in q)
        → ((u : ℕ) × FiresIn events_of u j) ↔ (clock_of (chain_in q) j < clocks_made runs_of)
    pub newest : (sizes : List ℕ) → (chain_in q).the_ground ≡ rectangle sizes → (j : ℕ) → j < iterations_of (chain_in q)
        → clock_of (chain_in q) j ≡ newest_of (chain_in q) j

  -- "The firing clocks are promised for rectangles only": there, on a planned chain the iterations fired by the list are
  -- exactly those whose newest cell has a position below the clocks made, and each fires in the clock that equals this
  -- position.
  pub record OnTime (sizes : List ℕ) (is : (chain_in q).the_ground ≡ rectangle sizes) : Type 0 where
    pub fired : Planned (chain_in q) → (j : ℕ) → j < iterations_of (chain_in q)
        → ((u : ℕ) × FiresIn events_of u j) ↔ (newest_of (chain_in q) j < clocks_made runs_of)
    pub clock : Planned (chain_in q) → (j u : ℕ) → FiresIn events_of u j → u ≡ newest_of (chain_in q) j

-- Chains of the same grid, box and window have the same clocks.
abbrev pub SameClocks : (p q : ListOfCalls) → Type 0
SameClocks p q = SameWindow (chain_in p) (chain_in q) → (j : ℕ) → clock_of (chain_in p) j ≡ clock_of (chain_in q) j

-- No chain of the same grid, box and window fires an iteration earlier than the planned one: "in that clock, later or never".
-- Streams and calls of the two lists are as they like.
pub record NotEarlier (p q : ListOfCalls) : Type 0 where
  -- An index is that of one iteration, the same vector, in both lists.
  pub same_count : SameWindow (chain_in p) (chain_in q) → iterations_of (chain_in p) ≡ iterations_of (chain_in q)
  pub same_iteration : SameWindow (chain_in p) (chain_in q) → (j : ℕ) → iteration_of (chain_in p) j ≡ iteration_of (chain_in q) j
  pub newest_first : SameWindow (chain_in p) (chain_in q) → (j u : ℕ) → FiresIn (events_of q) u j → newest_of (chain_in p) j ≤ u
  pub planned_first : SameWindow (chain_in p) (chain_in q) → Planned (chain_in p) → (j u v : ℕ) → FiresIn (events_of p) u j
      → FiresIn (events_of q) v j → u ≤ v
  -- Indeed it fires in the planned chain's clock or never: where the planned chain's list made a clock of that number, that
  -- clock fires the iteration too.
  pub same_clock : SameWindow (chain_in p) (chain_in q) → Planned (chain_in p) → (j v : ℕ) → FiresIn (events_of q) v j
      → v < clocks_made (runs_of p) → FiresIn (events_of p) v j

-- Demand 3.
pub record Demand3 : Type 0 where
  pub finishes : (q : ListOfCalls) → Finishes q
  pub stalls : (q : ListOfCalls) → Stalls q
  pub numbered : (q : ListOfCalls) → Numbered q
  pub hands_on : (q : ListOfCalls) → HandsOn q
  pub indexed : (q : ListOfCalls) → Indexed q
  pub in_its_clock : (q : ListOfCalls) → InItsClock q
  pub same_clocks : (p q : ListOfCalls) → SameClocks p q
  pub on_time : (q : ListOfCalls) (sizes : List ℕ) (is : (chain_in q).the_ground ≡ rectangle sizes) → OnTime q sizes is
  pub not_earlier : (p q : ListOfCalls) → NotEarlier p q
