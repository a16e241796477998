-- `copy` stores the words of the filters one after the other. The loop's invariant: storing the words that remain gives what storing all does. Assumes nothing.
use Prim.Native.Nat.{◌+◌}
use mathlib.Core.Path.{◌≡◌}
use lib.ListN.{drop}
use lib.Seq.{sets}
use Rattle.model_run.specs.Kernels.{words_at}
use Rattle.kernel_rows.proofs.copy.Given as goal

abbrev pub invariant-loop-i : goal.invariant-loop-i
invariant-loop-i l =
    sets l.out (l.at + l.i) (drop l.i (words_at l.filters l.row)) ≡ sets l.initial.out l.at (words_at l.filters l.row)
