-- The loop's invariant: the frame so far, fed what is left of the piece, gives what the frame at the start gives, fed the piece.
use Prim.Native.Nat.{ℕ}
use mathlib.Core.Bool.{Bool}
use mathlib.Core.List.{List}
use mathlib.Core.Path.{◌≡◌}
use lib.ListN.{drop}
use Rattle.model.specs.declared.Frame.{Frame}
use Rattle.model_sheet.specs.Frames.{feeds}
use Rattle.sheet_frames.proofs.more.Given as goal
use Rattle.std.specs.Prelude.{Option}

abbrev pub made : List ℕ → ℕ → Bool → Option ℕ → Frame
made first len sound upper = record { first = first; len = len; sound = sound; upper = upper }

abbrev pub invariant-loop-c : goal.invariant-loop-c
invariant-loop-c l =
    feeds (made l.first l.len l.sound l.upper) (drop l.c-index l.piece) ≡ feeds (made l.initial.first l.initial.len l.initial.sound l.initial.upper) l.piece
