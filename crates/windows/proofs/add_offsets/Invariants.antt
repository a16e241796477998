-- The loop's invariant: the first d sums are made.
use Rattle.windows.proofs.SumLaws.{AddedTo}
use Rattle.windows.proofs.add_offsets.Given as goal

abbrev pub invariant-loop-d : goal.invariant-loop-d
invariant-loop-d l = AddedTo l.dims l.a l.b l.d l.fits l.entries
