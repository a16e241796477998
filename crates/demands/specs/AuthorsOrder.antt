-- Terms in the author's order (document 02, request 2).
use Rattle.std.specs.Prelude.{ℕ, ◌<◌, false, List, ◌↔◌, ◌≡◌, length, get_or, Ok}
use Rattle.model.specs.Values.{trimmed, Same}
use Rattle.model.specs.Judging.{bad_order}
use Rattle.model.specs.Planning.{judge_request, plan_of}
use Rattle.model_run.specs.CallLists.{all_words, firings_made}
use Rattle.model_run.specs.Words.{words_of, loop_of, loop_from}
use Rattle.model.specs.declared.Chain.{Chain}
use Rattle.model.specs.declared.Request.{Request}
use Rattle.demands.specs.Demand3.{ListOfCalls, runs_of, chain_in}

-- "each filter number once": each of 0 .. n - 1 stands in the list, at one place.
pub record EachOnce (n : ℕ) (order : List ℕ) : Type 0 where
  pub each : (k : ℕ) → k < n → (i : ℕ) × (i < length order) × (get_or order i 0 ≡ k)
  pub once : (i j : ℕ) → i < length order → j < length order → get_or order i 0 ≡ get_or order j 0 → i ≡ j

-- Of a request that no number turns back there is a planned chain, of which this holds.
abbrev pub OfPlan : Request → (rows : List ℕ) → (Chain → Type 0) → Type 0
OfPlan r rows P = judge_request r rows ≡ Ok tt → (c : Chain) × (plan_of r rows ≡ Ok c) × P c

pub record AuthorsOrder : Type 0 where
  -- 14: the n bytes "are not each filter number once".
  pub number_14 : (n : ℕ) (order : List ℕ) → length order ≡ n → (bad_order n order ≡ false) ↔ EachOnce n order
  -- "kernel outputs are compared with the author's own loop": of a request that no number turns back, whatever the cells are,
  -- the planned chain writes in every iteration the words that the kernel gives over the request's references in the
  -- request's order;
  pub loop : (r : Request) (rows : List ℕ)
      → OfPlan r rows (λ c. (stream : ℕ → ℕ) (j : ℕ) → words_of (trimmed c rows) stream j ≡ loop_of r rows stream j)
  -- and all outputs of a list of calls on it are those words of iterations 0, 1, 2, .., as many as there were firings.
  pub outputs : (r : Request) (rows : List ℕ) → OfPlan r rows (λ c. (q : ListOfCalls) → Same q.chain q.rows c rows
      → all_words (chain_in q) q.stream q.calls q.start ≡ loop_from r rows q.stream 0 (firings_made (runs_of q)))
