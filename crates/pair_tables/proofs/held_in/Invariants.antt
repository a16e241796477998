-- The loop's invariant: the filters of the first k references are entered.
use Rattle.model.specs.Lists.{tabulate}
use Rattle.model.specs.Steps.{which_of}
use Rattle.geometry.specs.Parts.{offset_at, Filled}
use Rattle.pair_tables.proofs.held_in.Given as goal

abbrev pub invariant-loop-k : goal.invariant-loop-k
invariant-loop-k l = Filled 32 0 (λ i. which_of (tabulate l.chain.count (offset_at l.dims l.chain.offsets)) (offset_at l.dims l.own.offsets i)) l.k l.filters
