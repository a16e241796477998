-- The loop's invariant: what the first k filters hold is entered.
use Prim.Native.Nat.{◌≤◌}
use Rattle.model.specs.Lists.{tabulate}
use Rattle.geometry.specs.Parts.{part, offset_at}
use Rattle.pair_tables.proofs.TableLaws.{Entered}
use Rattle.pair_tables.proofs.chain_order_in.Given as goal

abbrev pub invariant-loop-k : goal.invariant-loop-k
invariant-loop-k l =
    (l.count ≤ l.k) × Entered (tabulate l.chain.count (offset_at l.dims l.chain.offsets)) (tabulate l.own.count (offset_at l.dims l.own.offsets)) (part (offset_at l.dims l.chain.offsets) l.k l.chain.count) l.count l.filters
