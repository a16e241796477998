-- A run call of a pair, by its parts.
use Rattle.std.specs.Prelude.{ℕ, List, ◌≡◌, Ok}
use Rattle.model.specs.Values.{trimmed, dims_of}
use Rattle.model.specs.Answers.{first_of}
use Rattle.model.specs.Pairs.{own_of, pair_checks}
use Rattle.model_run.specs.PairRuns.{PairRun}
use Rattle.model.specs.declared.Chain.{Chain}
use Rattle.model.specs.declared.Ran.{Ran}
use Rattle.model.specs.declared.Side.{Side}

-- All that a call of a pair leaves.
abbrev pub pair_ran : Ran → (store first second : List ℕ) → PairRun
pair_ran r store first second = record {
  answer = r.answer;
  state = r.state;
  store = store;
  first = first;
  second = second;
}

-- A pair that no number turns back.
abbrev pub Judged : Chain → (rows : List ℕ) → Side → Side → Type 0
Judged c rows x y =
    first_of (pair_checks (trimmed c rows) (own_of (dims_of c.grid) x) (own_of (dims_of c.grid) y)) ≡ Ok tt
