-- The loop's invariant: with the words that remain laid, the output is what it is with all of them laid from `at` on.
use Prim.Native.Nat.{◌+◌, ◌*◌}
use mathlib.Core.Path.{◌≡◌}
use lib.ListN.{drop}
use lib.Seq.{sets}
use Rattle.program_writer.proofs.FiringLaws.{words_at, word_digits}
use Rattle.program_writer.proofs.put_words.Given as goal

abbrev pub invariant-loop-i : goal.invariant-loop-i
invariant-loop-i l =
    sets l.out (l.at + 8 * l.i) (word_digits (drop l.i (words_at l.words l.from l.size))) ≡ sets l.initial.out l.at (word_digits (words_at l.words l.from l.size))
