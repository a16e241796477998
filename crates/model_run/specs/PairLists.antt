-- Lists of calls of a pair (document 02, request 6), as demand 3 speaks of lists of calls.
use Rattle.std.specs.Prelude.{ℕ, zero, suc, ◌*◌, min, List, [], ◌∷◌, ◌++◌, take, drop, get_or, replicate}
use Rattle.model.specs.Lists.{tabulate}
use Rattle.model.specs.Vectors.{plus}
use Rattle.model.specs.Values.{Trimmed}
use Rattle.model.specs.Iterations.{position_of, iteration_of}
use Rattle.model.specs.Answers.{answer_counts}
use Rattle.model.specs.Pairs.{Own}
use Rattle.model_run.specs.CallLists.{Lending, Between, lent_cells}
use Rattle.model_run.specs.PairRuns.{own_gives, own_width, room_for, PairRun, run_pair}

-- What a call of a pair lends.
pub record PairLending : Type 0 where
  pub cells : ℕ
  pub first : List ℕ
  pub second : List ℕ
  pub allowance : ℕ
  pub front : ℕ

module _ (t : Trimmed) (a b : Own) (stream : ℕ → ℕ) where
  -- The raw chain's call that it is: places for as many firings as both outputs have.
  unfoldable pub raw_lending : PairLending → Lending
  raw_lending l = record {
    cells = l.cells;
    output = replicate (min (room_for a l.first) (room_for b l.second) * t.count) 0;
    allowance = l.allowance;
    front = l.front;
  }

  unfoldable pub pair_call : PairLending → Between → PairRun
  pair_call l x = run_pair t a b x.state (take l.front x.store) (lent_cells t stream (raw_lending l) x)
      l.first l.second l.allowance

  unfoldable pub pair_after : PairLending → Between → Between
  pair_after l x = let r = pair_call l x in record { state = r.state; store = r.store ++ drop l.front x.store }

  unfoldable pub pair_runs : List PairLending → Between → List PairRun
  pair_runs [] x = []
  pair_runs (l ∷ ls) x = pair_call l x ∷ pair_runs ls (pair_after l x)

  unfoldable pub pair_after_all : List PairLending → Between → Between
  pair_after_all [] x = x
  pair_after_all (l ∷ ls) x = pair_after_all ls (pair_after l x)

  -- The words that the list's calls wrote to one of the outputs.
  unfoldable pub words_to : Own → (PairRun → List ℕ) → List PairLending → Between → List ℕ
  words_to c out [] x = []
  words_to c out (l ∷ ls) x =
      let r = pair_call l x in
      take ((answer_counts r.answer).firings * own_width c) (out r) ++ words_to c out ls (pair_after l x)

-- "the author's own loop" for a window: the kernel over the window's references in its author's order, in iteration j of the
-- union,
unfoldable pub own_loop : Trimmed → Own → (stream : ℕ → ℕ) → ℕ → List ℕ
own_loop t a stream j =
    let i = iteration_of t j in
    own_gives t a (tabulate a.count (λ k. stream (position_of t (plus i (get_or a.offsets k [])))))

-- and over n iterations from j on.
unfoldable pub own_loops : Trimmed → Own → (stream : ℕ → ℕ) → (j n : ℕ) → List ℕ
own_loops t a stream j zero = []
own_loops t a stream j (suc n) = own_loop t a stream j ++ own_loops t a stream (suc j) n
