use borrow.Author.Tests.{lt-ltb, le-ltb}
use Rattle.model_sheet.specs.Frames.{digit_of}
use Rattle.hexadecimal.proofs.digit_of.Goals as goal

pub returns-then-v-lt10 : goal.returns-then-v-lt10
unfolding digit_of
returns-then-v-lt10 c = simp (lt-ltb _ _ c.if-v-lt10.true)

pub returns : goal.returns
unfolding digit_of
returns c = simp (le-ltb _ _ c.if-v-lt10.false)
