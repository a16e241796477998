use mathlib.Core.Path.{◌≡◌}
use Rattle.zohmirka_words.specs.Words.{word_at}
use Rattle.zohmirka_words.proofs.WordLaws.{front}
use Rattle.zohmirka_words.proofs.rows_out.Given as goal

abbrev pub invariant-loop-i : goal.invariant-loop-i
invariant-loop-i l = l.rows ≡ front (word_at l.numbers) l.i l.initial.rows
