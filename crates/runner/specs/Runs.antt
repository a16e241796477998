-- The run call: what it leaves.
use Rattle.std.specs.Prelude.{ℕ, List}
use Rattle.model_run.specs.Running.{Run}
use Rattle.model.specs.declared.Ran.{Ran}

-- All that a call leaves: what it hands back, and the store and the output that it was lent.
abbrev pub ran_of : Ran → (store output : List ℕ) → Run
ran_of r store output = record { answer = r.answer; state = r.state; store = store; output = output }
