use Prim.Native.Nat.{◌+◌, ◌%◌}
use mathlib.Core.Path.{◌≡◌}
use lib.IntN.{pos}
use lib.ListN.{replicate}
use Rattle.model_sheet.specs.Numbers.{signed}
use Rattle.zohmirka_words.specs.Words.{word_at}
use Rattle.zohmirka_words.proofs.WordLaws.{front}
use Rattle.zohmirka_words.proofs.offsets_in.Given as goal

abbrev pub invariant-loop-i : goal.invariant-loop-i
invariant-loop-i l = l.offsets ≡ front (λ j. signed (word_at l.words (l.from + j) % 65536)) l.i (replicate 128 (pos 0))
