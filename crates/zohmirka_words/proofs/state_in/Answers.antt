use mathlib.Core.Path.{refl}
use native.Mathlib.Omega.{arith}
use lib.ListN.{replicate, length-replicate}
use Rattle.zohmirka_words.specs.Words.{word_at, counter}
use Rattle.zohmirka_words.proofs.WordLaws.{front_none, front_more, front_whole, few_state, state_of_words}
use Rattle.zohmirka_words.proofs.state_in.Goals as goal

pub returns-then-words-lt33 : goal.returns-then-words-lt33
returns-then-words-lt33 c = few_state _ c.if-words-lt33.true

pub loop-k-init : goal.loop-k-init
loop-k-init c = front_none (λ i. counter (word_at c.args.words.now i)) (replicate 32 (counter 0))

pub loop-k-preserved : goal.loop-k-preserved
loop-k-preserved c =
    front_more (λ i. counter (word_at c.args.words.now i)) c.loop-k.k (replicate 32 (counter 0)) c.loop-k.passed _ (rw length-replicate (omega arith)) refl c.loop-k.invariant

pub returns : goal.returns
returns c =
    state_of_words _ _ _ c.if-words-lt33.false
    (front_whole (λ j. counter (word_at c.args.words.now j)) 32 (counter 0) c.loop-k.k c.loop-k.passed (omega arith) (omega arith) c.loop-k.invariant) refl
