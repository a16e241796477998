-- The loop's invariant: the filters of the first i references are entered.
use lib.ListN.{get_or}
use Rattle.geometry.specs.Parts.{Filled}
use Rattle.pair_run.specs.Ports.{entry_of}
use Rattle.pair_run.proofs.ports.through.Given as goal

abbrev pub invariant-loop-i : goal.invariant-loop-i
invariant-loop-i l = Filled 32 0 (λ k. entry_of l.held (get_or l.references k 0)) l.i l.filters
