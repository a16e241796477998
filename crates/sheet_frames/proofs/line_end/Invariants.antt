-- The loop's invariant: from `i` on the line ends where it ends from `at` on.
use Prim.Native.Nat.{◌+◌}
use mathlib.Core.Path.{◌≡◌}
use lib.ListN.{length, drop}
use Rattle.model_sheet.specs.Lines.{line_of}
use Rattle.sheet_frames.proofs.line_end.Given as goal

abbrev pub invariant-loop-i : goal.invariant-loop-i
invariant-loop-i l = l.i + length (line_of (drop l.i l.sheet)) ≡ l.at + length (line_of (drop l.at l.sheet))
