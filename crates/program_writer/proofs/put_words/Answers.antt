use Prim.Native.Nat.{◌+◌, ◌*◌}
use mathlib.Core.Path.{◌≡◌, ◌∙◌}
use native.Mathlib.Nat.{add-zero}
use native.Mathlib.Omega.{arith}
use Rattle.program_writer.proofs.FiringLaws.{word_on, words_end}
use Rattle.program_writer.proofs.put_words.Goals as goal

pub loop-i-init : goal.loop-i-init
loop-i-init c = rw add-zero

pub loop-i-preserved : goal.loop-i-preserved
loop-i-preserved c =
    let a = c.args in
    let i = c.loop-i.i in
    let e : a.at + 8 * (i + 1) ≡ a.at + 8 * i + 8 = omega arith in
    rw (e, c.put_word.ensures) (word_on a.words.now a.from a.size c.requires.1 c.loop-i.out (a.at + 8 * i) i c.loop-i-test.true) ∙ c.loop-i.invariant

pub returns : goal.returns
returns c =
    let a = c.args in
    let i = c.loop-i.i in
    (omega arith, words_end a.words.now a.from a.size c.requires.1 c.loop-i.out (a.at + 8 * i) i c.loop-i-test.false ∙ c.loop-i.invariant)
