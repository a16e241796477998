use Prim.Native.Nat.{◌+◌}
use mathlib.Core.Path.{◌≡◌}
use Rattle.zohmirka_words.specs.Words.{chain_word}
use Rattle.zohmirka_words.proofs.WordLaws.{front}
use Rattle.zohmirka_words.proofs.chain_out.Given as goal

abbrev pub invariant-loop-i : goal.invariant-loop-i
invariant-loop-i l = l.words ≡ front (chain_word l.c) l.i l.fn.words

-- the words before the order stand
abbrev pub invariant-loop-t : goal.invariant-loop-t
invariant-loop-t l = l.words ≡ front (chain_word l.c) (169 + l.t) l.fn.words

-- and those before the box
abbrev pub invariant-loop-d : goal.invariant-loop-d
invariant-loop-d l = l.words ≡ front (chain_word l.c) (201 + l.d) l.fn.words
