use borrow.Author.Tests.{le-leb, lt-leb}
use Rattle.model_sheet.specs.Frames.{is_digit}
use Rattle.hexadecimal.proofs.is_digit.Goals as goal

pub returns-then-c-le57 : goal.returns-then-c-le57
unfolding is_digit
returns-then-c-le57 c = simp (le-leb _ _ c.if-c-le57.true)

pub returns-then-c-le70 : goal.returns-then-c-le70
unfolding is_digit
returns-then-c-le70 c = simp (lt-leb _ _ c.if-c-le57.false, le-leb _ _ c.if-c-le70.true)

pub returns : goal.returns
unfolding is_digit
returns c = simp (lt-leb _ _ c.if-c-le57.false, lt-leb _ _ c.if-c-le70.false)
