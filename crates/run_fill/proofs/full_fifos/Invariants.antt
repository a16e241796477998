-- `full_fifos` finds no FIFO with a place left. Assumes nothing.
use Prim.Native.Nat.{◌+◌}
use Rattle.loop_laws.specs.Passes.{FullFifos}
use Rattle.run_fill.proofs.full_fifos.Given as goal

abbrev pub invariant-loop-k : goal.invariant-loop-k
invariant-loop-k l = FullFifos (l.k + 1) l.caps l.passed
