use native.Mathlib.Omega.{arith}
use Rattle.zohmirka_words.specs.Words.{state_word}
use Rattle.zohmirka_words.proofs.WordLaws.{front_none, few_words, counter_more, fired_more}
use Rattle.zohmirka_words.proofs.state_out.Goals as goal

pub returns-then-words-lt33 : goal.returns-then-words-lt33
returns-then-words-lt33 c = few_words _ _ c.if-words-lt33.true

pub loop-k-init : goal.loop-k-init
loop-k-init c = front_none (state_word c.args.state) c.args.words.now

pub loop-k-preserved : goal.loop-k-preserved
loop-k-preserved c = counter_more _ c.args.state c.loop-k.k c.loop-k.words (omega arith) (omega arith) c.loop-k.invariant

pub returns : goal.returns
returns c = fired_more _ c.args.state c.loop-k.k c.loop-k.words (omega arith) (omega arith) c.if-words-lt33.false c.loop-k.invariant
