use Prim.Native.Nat.{ℕ, ◌<◌}
use Rattle.loop_laws.proofs.FillLaws.{Pair}
use Rattle.run_fill.proofs.lined.Given as goal

abbrev pub invariant-loop-k : goal.invariant-loop-k
invariant-loop-k l = (j : ℕ) → j < l.k → Pair l.at l.ps j
