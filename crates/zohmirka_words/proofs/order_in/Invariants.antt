use Prim.Native.Nat.{◌+◌}
use mathlib.Core.Path.{◌≡◌}
use lib.ListN.{replicate}
use Rattle.zohmirka_words.specs.Words.{word_at, count_in}
use Rattle.zohmirka_words.proofs.WordLaws.{front}
use Rattle.zohmirka_words.proofs.order_in.Given as goal

abbrev pub invariant-loop-t : goal.invariant-loop-t
invariant-loop-t l = l.filters ≡ front (λ i. count_in (word_at l.words (169 + i))) l.t (replicate 32 0)
