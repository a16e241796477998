-- What is promised of a run call of two kernels on one chain (document 02, request 6).
use Rattle.std.specs.Prelude.{ℕ, ◌+◌, ◌*◌, ◌≤◌, ◌<◌, min, true, List, ◌⊎◌, ◌≡◌, length, take, replicate, Ok}
use Rattle.model.specs.Lists.{tabulate}
use Rattle.model.specs.Values.{Trimmed, trimmed, dims_of}
use Rattle.model.specs.Iterations.{reads_of}
use Rattle.model.specs.Answers.{first_of, answer_counts}
use Rattle.model.specs.Pairs.{Own, own_of, raw_of, pair_checks}
use Rattle.model_run.specs.Clock.{fires}
use Rattle.model_run.specs.Running.{layout, Ended, Full, Run, run_trimmed}
use Rattle.model_run.specs.PairRuns.{own_words, own_width, room_for, pair_ended, pair_output, PairRun, run_pair, own_call, onto}
use Rattle.model_run.specs.PairLists.{own_loop}
use Rattle.model.specs.declared.State.{State}
use Rattle.model.specs.declared.Side.{Side}
use Rattle.model.specs.declared.Outcome.TheVariants as outcome
use Rattle.model.specs.declared.Counts.{Counts}
use Rattle.model.specs.declared.Chain.{Chain}

-- A chain, its rows, and two windows that 3 to 9 and 14 to 16 let pass.
pub record Pair : Type 0 where
  pub chain : Chain
  pub rows : List ℕ
  pub first : Side
  pub second : Side
  pub accepted :
      first_of (pair_checks (trimmed chain rows) (own_of (dims_of chain.grid) first) (own_of (dims_of chain.grid) second))
      ≡ Ok tt

-- What of them plays a part.
module _ (p : Pair) where
  abbrev pub chain_of_pair : Trimmed
  chain_of_pair = trimmed p.chain p.rows

  abbrev pub first_own : Own
  first_own = own_of (dims_of p.chain.grid) p.first

  abbrev pub second_own : Own
  second_own = own_of (dims_of p.chain.grid) p.second

module _ (t : Trimmed) (a b : Own) (s : State) (store lent first second : List ℕ) (allowance : ℕ) where
  abbrev pub pair_run : PairRun
  pair_run = run_pair t a b s store lent first second allowance

  -- Document 01's call of the raw chain, with places for as many firings as both outputs have.
  abbrev pub raw_run : Run
  raw_run = run_trimmed (raw_of t) s store lent (replicate (min (room_for a first) (room_for b second) * t.count) 0) allowance

  -- Clocks, cells, outcome, refusals, state and store are that call's: so all of demand 3, and what else is promised of run
  -- calls, holds of pairs.
  pub record AsRaw : Type 0 where
    pub answer : pair_run.answer ≡ raw_run.answer
    pub state : pair_run.state ≡ raw_run.state
    pub words : pair_run.store ≡ raw_run.store

  abbrev pub paired : Ended
  paired = pair_ended t a b s store lent first second allowance

  -- What the pair has written to an output.
  abbrev pub written_to : Own → List ℕ → List ℕ
  written_to c output = pair_output t a b s store lent first second allowance c output

  -- One kernel of the pair, with its output: by itself, allowed the clocks that the pair makes, its call stands where the pair
  -- does, and has written what the pair has.
  abbrev pub Projects : Own → List ℕ → Type 0
  Projects c output =
      (own_call t c s store lent output paired.standing.done.clocks).standing ≡ onto paired.standing (written_to c output)

  -- Allowed what the pair is allowed, it also ends as the pair does.
  pub record Decides (c : Own) (output : List ℕ) : Type 0 where
    pub ending : (own_call t c s store lent output allowance).ending ≡ paired.ending
    pub standing : (own_call t c s store lent output allowance).standing ≡ onto paired.standing (written_to c output)

  -- The output lacks places for one more firing.
  abbrev pub Lacks : Own → List ℕ → Type 0
  Lacks c output = length output < paired.standing.done.firings * own_width c + own_width c

  pub record OnePair : Type 0 where
    -- "Each firing writes to each output what its kernel gives": each output is what that kernel's own call of document 01
    -- writes, in as many clocks.
    pub first_alone : Projects a first
    pub second_alone : Projects b second
    -- "Full is shared": the kernel whose output has places for fewer firings decides how the call ends.
    pub first_decides : room_for a first ≤ room_for b second → Decides a first
    pub second_decides : room_for b second ≤ room_for a first → Decides b second
    -- "it comes if either output lacks places at a firing"
    pub full : paired.ending ≡ Full
        → (fires (layout t) paired.standing.counters ≡ true) × (Lacks a first ⊎ Lacks b second)

-- A call that does not end Full.
abbrev pub Unfull : PairRun → Type 0
Unfull r = (c : Counts) → r.answer ≡ Ok (outcome.Full c) → ⊥

-- "While both outputs have places and both kernels are accepted, neither kernel's kind or factors alters a word of the other's
-- output, nor the clocks, cells or outcome": of two pairs on one chain, whatever their kernels and outputs are, the answers,
-- states and stores are the same; and so is the output of a kernel that is the same in both.
module _ (t : Trimmed) (a b a' b' : Own) (s : State) (store lent first second first' second' : List ℕ) (allowance : ℕ) where
  abbrev one : PairRun
  one = run_pair t a b s store lent first second allowance

  abbrev other : PairRun
  other = run_pair t a' b' s store lent first' second' allowance

  pub record Independent : Type 0 where
    pub answers : one.answer ≡ other.answer
    pub states : one.state ≡ other.state
    pub stores : one.store ≡ other.store
    pub same_first : a ≡ a' → first ≡ first' → one.first ≡ other.first
    pub same_second : b ≡ b' → second ≡ second' → one.second ≡ other.second

module _ (t : Trimmed) (a : Own) (s : State) (store lent first second : List ℕ) (allowance : ℕ) where
  abbrev twice : PairRun
  twice = run_pair t a a s store lent first second allowance

  -- How many words the firings of the call wrote to each output.
  abbrev words : ℕ
  words = (answer_counts twice.answer).firings * own_width a

  -- A pair of twice the same window writes the same twice.
  abbrev pub Twice : Type 0
  Twice = take words twice.first ≡ take words twice.second

-- The words of the filters in iteration j, in chain order.
abbrev pub read_in : Trimmed → (stream : ℕ → ℕ) → (j : ℕ) → List ℕ
read_in t stream j = tabulate t.count (λ k. stream (reads_of t j k))

-- Request 6.
pub record PairDemands : Type 0 where
  pub one : (p : Pair) (s : State) (store lent first second : List ℕ) (allowance : ℕ)
      → OnePair (chain_of_pair p) (first_own p) (second_own p) s store lent first second allowance
  pub as_raw : (p : Pair) (s : State) (store lent first second : List ℕ) (allowance : ℕ)
      → AsRaw (chain_of_pair p) (first_own p) (second_own p) s store lent first second allowance
  pub independent : (p q : Pair) → chain_of_pair q ≡ chain_of_pair p
      → (s : State) (store lent first second first' second' : List ℕ) (allowance : ℕ)
      → Unfull (pair_run (chain_of_pair p) (first_own p) (second_own p) s store lent first second allowance)
      → Unfull (pair_run (chain_of_pair q) (first_own q) (second_own q) s store lent first' second' allowance)
      → Independent (chain_of_pair p) (first_own p) (second_own p) (first_own q) (second_own q)
      s store lent first second first' second'
      allowance
  pub twice : (p : Pair) → second_own p ≡ first_own p → (s : State) (store lent first second : List ℕ) (allowance : ℕ)
      → Twice (chain_of_pair p) (first_own p) s store lent first second allowance
  -- "the chain's own kernel and order play no part", in a pair that is refused neither.
  pub no_part : (t : Trimmed) (a b : Own) (s : State) (store lent first second : List ℕ) (allowance : ℕ)
      → run_pair t a b s store lent first second allowance ≡ run_pair (raw_of t) a b s store lent first second allowance
  -- In every iteration the words are those of the window's author's own loop.
  pub loop_first : (p : Pair) (stream : ℕ → ℕ) (j : ℕ)
      → own_words (chain_of_pair p) (first_own p) (read_in (chain_of_pair p) stream j)
      ≡ own_loop (chain_of_pair p) (first_own p) stream j
  pub loop_second : (p : Pair) (stream : ℕ → ℕ) (j : ℕ)
      → own_words (chain_of_pair p) (second_own p) (read_in (chain_of_pair p) stream j)
      ≡ own_loop (chain_of_pair p) (second_own p) stream j
