use Prim.Native.Nat.{ℕ, ◌+◌}
use mathlib.Core.Path.{◌≡◌, ◌∙◌, ap}
use native.Mathlib.Omega.{arith}
use lib.ListN.{set}
use Rattle.zohmirka_words.specs.Words.{chain_word}
use Rattle.zohmirka_words.proofs.WordLaws.{front_none, front_more, few_places, stood_more, filter_more, box_more, words_of_chain}
use Rattle.zohmirka_words.proofs.chain_out.Goals as goal

pub returns-then-words-lt212 : goal.returns-then-words-lt212
returns-then-words-lt212 c = few_places _ _ c.if-words-lt212.true

pub loop-i-init : goal.loop-i-init
loop-i-init c = front_none (chain_word c.args.c) c.args.words.now

pub loop-i-preserved : goal.loop-i-preserved
loop-i-preserved c =
    front_more (chain_word c.args.c) c.loop-i.i c.args.words.now c.loop-i.words c.chain_word.result (omega arith) c.chain_word.ensures c.loop-i.invariant

pub loop-t-init : goal.loop-t-init
loop-t-init c = stood_more _ c.args.c c.loop-i.i c.loop-i.words (omega arith) (omega arith) c.if-words-lt212.false c.loop-i.invariant

pub loop-t-preserved : goal.loop-t-preserved
loop-t-preserved c = filter_more _ c.args.c c.loop-t.t c.loop-t.words (omega arith) c.if-words-lt212.false c.loop-t.invariant

pub loop-d-init : goal.loop-d-init
loop-d-init c =
    let t : c.loop-t.t ≡ 32 = omega arith in
    rw t at c.loop-t.invariant

pub loop-d-preserved : goal.loop-d-preserved
loop-d-preserved c =
    ap (λ (w : ℕ). set c.loop-d.words (201 + c.loop-d.d) w) c.box_word.ensures
    ∙ box_more _ c.args.c c.loop-d.d c.loop-d.words (omega arith) c.if-words-lt212.false c.loop-d.invariant

pub returns : goal.returns
returns c = words_of_chain _ c.args.c c.loop-d.d c.loop-d.words (omega arith) (omega arith) c.if-words-lt212.false c.loop-d.invariant
