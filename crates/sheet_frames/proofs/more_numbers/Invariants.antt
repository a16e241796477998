-- The loop's invariant: the numbers so far, fed what is left of the piece, give what the numbers at the start give, fed the piece.
use mathlib.Core.Path.{◌≡◌}
use lib.ListN.{drop}
use Rattle.model_sheet.specs.Frames.{numbers_feeds}
use Rattle.sheet_frames.proofs.NumberLaws.{bare}
use Rattle.sheet_frames.proofs.more_numbers.Given as goal

abbrev pub invariant-loop-c : goal.invariant-loop-c
invariant-loop-c l =
    numbers_feeds l.numbers (bare l.len l.half) (drop l.c-index l.piece) ≡ numbers_feeds l.initial.numbers (bare l.initial.len l.initial.half) l.piece
