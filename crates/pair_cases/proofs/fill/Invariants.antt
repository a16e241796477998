use Rattle.std.proofs.Common.{◌≡◌, length}
use Rattle.pair_cases.proofs.fill.Given as goal

abbrev pub invariant-loop-p : goal.invariant-loop-p
invariant-loop-p l = length l.cells ≡ length l.initial.cells
