-- The loop's invariant: the first k numbers stand in their places.
use mathlib.Core.Path.{◌≡◌}
use Rattle.model_sheet.specs.Frames.{bytes_of}
use Rattle.sheet_frames.proofs.NumberLaws.{first_on}
use Rattle.sheet_frames.proofs.numbers_on.Given as goal

abbrev pub invariant-loop-k : goal.invariant-loop-k
invariant-loop-k l = l.numbers ≡ first_on l.k (bytes_of l.line)
