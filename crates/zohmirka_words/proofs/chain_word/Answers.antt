use Prim.Native.Nat.{◌-◌}
use mathlib.Core.Path.{ap, ◌∙◌}
use lib.IntN.{pos}
use lib.ListN.{get_or}
use mir.Facts.{to_z-of_z}
use mir.Syntax.{w16}
use borrow.Author.Rules.{rules}
use borrow.Author.Tests.{lt-ltb, le-ltb}
use Rattle.model_sheet.specs.Numbers.{pattern}
use Rattle.zohmirka_words.specs.Words.{chain_word}
use Rattle.zohmirka_words.proofs.chain_word.Goals as goal

pub returns-then-i-lt1 : goal.returns-then-i-lt1
unfolding chain_word
returns-then-i-lt1 c = rw (lt-ltb _ _ c.if-i-lt1.true)

pub returns-then-i-lt5 : goal.returns-then-i-lt5
unfolding chain_word
returns-then-i-lt5 c =
    simp (le-ltb _ _ c.if-i-lt1.false, lt-ltb _ _ c.if-i-lt5.true)

pub returns-then-i-lt6 : goal.returns-then-i-lt6
unfolding chain_word
returns-then-i-lt6 c =
    simp (le-ltb _ _ c.if-i-lt1.false, le-ltb _ _ c.if-i-lt5.false, lt-ltb _ _ c.if-i-lt6.true)

pub returns-then-i-lt134 : goal.returns-then-i-lt134
unfolding chain_word
returns-then-i-lt134 c =
    c.pattern_of.ensures
    ∙ ap pattern (to_z-of_z {w = w16} {z = get_or c.args.c.now.window.offsets (c.args.i - 6) (pos 0)} (record { sfits = search rules }))
    ∙ simp (le-ltb _ _ c.if-i-lt1.false, le-ltb _ _ c.if-i-lt5.false, le-ltb _ _ c.if-i-lt6.false, lt-ltb _ _ c.if-i-lt134.true)

pub returns-then-i-lt165 : goal.returns-then-i-lt165
unfolding chain_word
returns-then-i-lt165 c =
    simp (
      le-ltb _ _ c.if-i-lt1.false,
      le-ltb _ _ c.if-i-lt5.false,
      le-ltb _ _ c.if-i-lt6.false,
      le-ltb _ _ c.if-i-lt134.false,
      lt-ltb _ _ c.if-i-lt165.true,
    )

pub returns : goal.returns
unfolding chain_word
returns c =
    simp (
      le-ltb _ _ c.if-i-lt1.false,
      le-ltb _ _ c.if-i-lt5.false,
      le-ltb _ _ c.if-i-lt6.false,
      le-ltb _ _ c.if-i-lt134.false,
      le-ltb _ _ c.if-i-lt165.false,
      lt-ltb _ _ c.requires,
      c.kernel_words-last.ensures,
    )
