-- The loop's invariant: with the rest of the frame laid on, the output is what it is with the whole frame laid from `at` on.
use Prim.Native.Nat.{◌+◌, ◌*◌}
use mathlib.Core.Path.{◌≡◌}
use lib.ListN.{take, drop}
use lib.Seq.{sets}
use Rattle.model_sheet.specs.Frames.{framed}
use Rattle.sheet_writer.proofs.put_frame.Given as goal

abbrev pub invariant-loop-i : goal.invariant-loop-i
invariant-loop-i l =
    sets l.out (l.at + 2 * l.i) (framed (drop l.i (take l.len l.x))) ≡ sets l.initial.out l.at (framed (take l.len l.x))
