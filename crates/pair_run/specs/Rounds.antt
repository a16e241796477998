-- The raw chain's call in rounds, and what both kernels give of it.
use Rattle.std.specs.Prelude.{ℕ, ◌*◌, ◌/◌, ◌≤◌, ◌<◌, min, Bool, true, false, List, ◌++◌, ◌≡◌, length, take, drop, replicate}
use Rattle.std.proofs.lemmas.List.Edits.{sets}
use Rattle.model.specs.Values.{trimmed}
use Rattle.model.specs.Pairs.{raw_of}
use Rattle.model_run.specs.Running.{judge_run, Ended, ended, outcome_of, with_counters, run_of}
use Rattle.model_run.specs.PairRuns.{by_rows}
use Rattle.std.specs.Prelude.{Ok, Err}
use Rattle.model.specs.Answers.{Answer}
use Rattle.model.specs.declared.Chain.{Chain}
use Rattle.model.specs.declared.Counts.{Counts}
use Rattle.model.specs.declared.Outcome.{Outcome}
use Rattle.model.specs.declared.Outcome.TheVariants as outcome
use Rattle.model.specs.declared.Ran.{Ran}
use Rattle.model.specs.declared.Refusal.{Refusal}
use Rattle.model.specs.declared.State.{State}
use Rattle.runner.specs.Runs.{ran_of}
use Rattle.pair_run.specs.Ports.{gives, Sound}
use Rattle.pair_run.specs.declared.ports.Port.{Port}

-- ---- answers

abbrev pub is_full : Answer → Bool
is_full (Ok (outcome.Done c)) = false
is_full (Ok (outcome.Spent c)) = false
is_full (Ok (outcome.Starved c)) = false
is_full (Ok (outcome.Stalled c)) = false
is_full (Ok (outcome.Full c)) = true
is_full (Err r) = false

abbrev pub recounted_by : Outcome → Counts → Outcome
recounted_by (outcome.Done c) d = outcome.Done d
recounted_by (outcome.Spent c) d = outcome.Spent d
recounted_by (outcome.Starved c) d = outcome.Starved d
recounted_by (outcome.Stalled c) d = outcome.Stalled d
recounted_by (outcome.Full c) d = outcome.Full d

abbrev pub with_counts : Answer → Counts → Answer
with_counts (Ok o) d = Ok (recounted_by o d)
with_counts (Err r) d = Err r

-- ---- a round

-- A call whose output is the front of the batch.
pub record Prefix (r : Ran) (store' batch' : List ℕ) (places : ℕ) (raw : Chain) (rows : List ℕ) (s : State)
    (store cells : List ℕ) (taken : ℕ) (batch : List ℕ) (left : ℕ) : Type 0 where
  pub part : List ℕ
  pub is : ran_of r store' part ≡ run_of raw rows s store (drop taken cells) (take places batch) left
  pub long : length part ≡ places
  pub batch_is : batch' ≡ part ++ drop places batch

-- ---- all rounds

-- What they ask for: a raw chain, and room in the batch and in both outputs.
pub record Begin (raw : Chain) (rows : List ℕ) (n most block : ℕ) (g h : Port) (out other batch : ℕ) (allowance : ℕ)
    : Type 0 where
  pub plain : raw_of (trimmed raw rows) ≡ trimmed raw rows
  pub count : n ≡ (trimmed raw rows).count
  pub some : 0 < block
  pub filled : 0 < n
  pub first_sound : Sound g
  pub second_sound : Sound h
  pub there : block * n ≤ batch
  pub fits : most * g.width ≤ out
  pub fits_other : most * h.width ≤ other
  pub batch_short : batch < 4294967296
  pub out_short : out < 4611686018427387904
  pub other_short : other < 4611686018427387904
  pub allowance_short : allowance < 4294967296

-- The raw chain's call with places for so many firings.
abbrev pub all_of : (raw : Chain) (rows : List ℕ) (most : ℕ) (s : State) (store cells : List ℕ) (allowance : ℕ) → Ended
all_of raw rows most s store cells allowance =
    ended (raw_of (trimmed raw rows)) s store cells (replicate (most * (trimmed raw rows).count) 0) allowance

-- What a call that ends so leaves, where both kernels got its rows.
pub record LeavesAll (r : Ran) (e : Ended) (n : ℕ) (g h : Port) (s : State) (store' out out' other other' : List ℕ)
    : Type 0 where
  pub answer_is : r.answer ≡ Ok (outcome_of e.ending e.standing.done)
  pub state_is : r.state ≡ with_counters s e.standing.counters
  pub store_is : store' ≡ e.standing.store
  pub first_is : out' ≡ sets out 0 (by_rows n (gives g) e.standing.done.firings e.standing.output)
  pub second_is : other' ≡ sets other 0 (by_rows n (gives h) e.standing.done.firings e.standing.output)

-- What the rounds leave: the call's, where no number turns it back; else everything as it was.
pub record Leaves (r : Ran) (raw : Chain) (rows : List ℕ) (most : ℕ) (g h : Port) (s : State)
    (store store' cells out out' other other' : List ℕ) (allowance : ℕ) : Type 0 where
  pub ended : judge_run (trimmed raw rows) s store ≡ Ok tt
      → LeavesAll r (all_of raw rows most s store cells allowance) (trimmed raw rows).count g h s store' out out' other other'
  pub refused : (x : Refusal) → judge_run (trimmed raw rows) s store ≡ Err x
      → (r.answer ≡ Err x) × (r.state ≡ s) × (store' ≡ store) × (out' ≡ out) × (other' ≡ other)

-- ---- the batch

-- How many firings both outputs have places for.
abbrev pub room_of : (out other one two : ℕ) → ℕ
room_of out other one two = min (out / one) (other / two)

-- What the rounds over a batch of so many words ask for.
pub record Buffered (raw : Chain) (rows : List ℕ) (n : ℕ) (g h : Port) (batch : ℕ) : Type 0 where
  pub plain : raw_of (trimmed raw rows) ≡ trimmed raw rows
  pub count : n ≡ (trimmed raw rows).count
  pub filled : 0 < n
  pub few : n ≤ 32
  pub batch_some : 32 ≤ batch
  pub batch_short : batch < 4294967296
  pub first_sound : Sound g
  pub second_sound : Sound h
