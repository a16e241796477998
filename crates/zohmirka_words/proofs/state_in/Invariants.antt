use mathlib.Core.Path.{◌≡◌}
use lib.ListN.{replicate}
use Rattle.zohmirka_words.specs.Words.{word_at, counter}
use Rattle.zohmirka_words.proofs.WordLaws.{front}
use Rattle.zohmirka_words.proofs.state_in.Given as goal

abbrev pub invariant-loop-k : goal.invariant-loop-k
invariant-loop-k l = l.passed ≡ front (λ i. counter (word_at l.words i)) l.k (replicate 32 (counter 0))
