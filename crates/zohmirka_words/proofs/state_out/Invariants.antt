use mathlib.Core.Path.{◌≡◌}
use Rattle.zohmirka_words.specs.Words.{state_word}
use Rattle.zohmirka_words.proofs.WordLaws.{front}
use Rattle.zohmirka_words.proofs.state_out.Given as goal

abbrev pub invariant-loop-k : goal.invariant-loop-k
invariant-loop-k l = l.words ≡ front (state_word l.state) l.k l.initial.words
