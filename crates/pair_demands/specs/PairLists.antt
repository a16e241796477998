-- Lists of calls of a pair: demands 2 and 3 (document 02, request 6).
use Rattle.std.specs.Prelude.{ℕ, List, map, ◌≡◌}
use Rattle.model.specs.Values.{Trimmed}
use Rattle.model.specs.Pairs.{Own, raw_chain}
use Rattle.model_run.specs.Running.{Run}
use Rattle.model_run.specs.CallLists.{Between, Fresh, firings_made}
use Rattle.model_run.specs.PairRuns.{PairRun}
use Rattle.model_run.specs.PairLists.{PairLending, raw_lending, pair_runs, pair_after_all, words_to, own_loops}
use Rattle.demands.specs.Demand3.{ListOfCalls, runs_of, handed_on}
use Rattle.pair_demands.specs.PairCalls.{Pair, chain_of_pair, first_own, second_own}

-- A list of calls, perhaps empty, of one pair; as `ListOfCalls`.
pub record ListOfPairCalls : Type 0 where
  pub pair : Pair
  pub stream : ℕ → ℕ
  pub start : Between
  pub fresh : Fresh (chain_of_pair pair) start
  pub calls : List PairLending

module _ (q : ListOfPairCalls) where
  abbrev t : Trimmed
  t = chain_of_pair q.pair

  abbrev a : Own
  a = first_own q.pair

  abbrev b : Own
  b = second_own q.pair

  abbrev pub pair_runs_of : List PairRun
  pair_runs_of = pair_runs t a b q.stream q.calls q.start

  -- It is the list `r` of calls of the raw chain, lent the same but for the outputs: so demand 3 and the other promises of lists
  -- of calls, which speak of r, are the pair's.
  pub record AsList (r : ListOfCalls) : Type 0 where
    pub chain : r.chain ≡ raw_chain q.pair.chain
    pub rows : r.rows ≡ q.pair.rows
    pub stream : r.stream ≡ q.stream
    pub start : r.start ≡ q.start
    pub calls : r.calls ≡ map (raw_lending t a b q.stream) q.calls
    pub answers : map (λ (x : PairRun). x.answer) pair_runs_of ≡ map (λ (x : Run). x.answer) (runs_of r)
    pub handed_on_lem : pair_after_all t a b q.stream q.calls q.start ≡ handed_on r
    -- Demand 2: each output has the words of that window's author's own loop, iterations 0, 1, 2, .. of the union.
    pub first : words_to t a b q.stream a (λ x. x.first) q.calls q.start
        ≡ own_loops t a q.stream 0 (firings_made (runs_of r))
    pub second : words_to t a b q.stream b (λ x. x.second) q.calls q.start
        ≡ own_loops t b q.stream 0 (firings_made (runs_of r))

abbrev pub PairLists : Type 0
PairLists = (q : ListOfPairCalls) → (r : ListOfCalls) × AsList q r
