use Prim.Native.Nat.{◌-◌}
use mathlib.Core.Path.{ap, ◌∙◌}
use lib.IntN.{pos}
use lib.ListN.{get_or}
use mir.Facts.{to_z-of_z}
use mir.Syntax.{w32}
use borrow.Author.Rules.{rules}
use borrow.Author.Tests.{lt-ltb, le-ltb}
use Rattle.model_sheet.specs.Numbers.{word_pattern}
use Rattle.zohmirka_words.specs.Words.{box_word}
use Rattle.zohmirka_words.proofs.WordLaws.{stood_word}
use Rattle.zohmirka_words.proofs.box_word.Goals as goal

pub returns-then-i-lt1 : goal.returns-then-i-lt1
unfolding box_word
returns-then-i-lt1 c = rw (lt-ltb _ _ c.if-i-lt1.true) (stood_word c.args.b.now.stood)

pub returns-then-i-lt5 : goal.returns-then-i-lt5
unfolding box_word
returns-then-i-lt5 c =
    c.word_pattern_of.ensures
    ∙ ap word_pattern (to_z-of_z {w = w32} {z = get_or c.args.b.now.lowest (c.args.i - 1) (pos 0)} (record { sfits = search rules }))
    ∙ simp (le-ltb _ _ c.if-i-lt1.false, lt-ltb _ _ c.if-i-lt5.true)

pub returns : goal.returns
unfolding box_word
returns c =
    c.word_pattern_of-2.ensures
    ∙ ap word_pattern (to_z-of_z {w = w32} {z = get_or c.args.b.now.highest (c.args.i - 5) (pos 0)} (record { sfits = search rules }))
    ∙ simp (le-ltb _ _ c.if-i-lt1.false, le-ltb _ _ c.if-i-lt5.false)
