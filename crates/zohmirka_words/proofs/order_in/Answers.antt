use Prim.Native.Nat.{◌+◌}
use mathlib.Core.Path.{refl}
use native.Mathlib.Omega.{arith}
use lib.ListN.{replicate, length-replicate}
use Rattle.zohmirka_words.specs.Words.{word_at, count_in}
use Rattle.zohmirka_words.proofs.WordLaws.{front_none, front_more, front_whole, order_of_words}
use Rattle.zohmirka_words.proofs.order_in.Goals as goal

pub loop-t-init : goal.loop-t-init
loop-t-init c = front_none (λ i. count_in (word_at c.args.words.now (169 + i))) (replicate 32 0)

pub loop-t-preserved : goal.loop-t-preserved
loop-t-preserved c =
    front_more (λ i. count_in (word_at c.args.words.now (169 + i))) c.loop-t.t (replicate 32 0) c.loop-t.filters _ (rw length-replicate (omega arith)) c.count_in.ensures c.loop-t.invariant

pub returns : goal.returns
returns c =
    order_of_words _ _ _ refl
    (front_whole (λ i. count_in (word_at c.args.words.now (169 + i))) 32 0 c.loop-t.t c.loop-t.filters (omega arith) (omega arith) c.loop-t.invariant)
