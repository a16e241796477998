use native.Mathlib.Omega.{arith}
use lib.ListN.{length-set}
use Rattle.program_writer.proofs.LineCalls.{end_short, end_laid}
use Rattle.program_writer.proofs.put_end.Goals as goal

pub returns-then-out-lt13 : goal.returns-then-out-lt13
returns-then-out-lt13 c = end_short _ _ _ c.if-out-lt13.true

pub shape_of-out : goal.shape_of-out
shape_of-out c = simp length-set (omega arith)

pub returns : goal.returns
returns c =
    rw (c.put_word.ensures, c.put_byte-2.ensures, c.put_byte.ensures) (end_laid _ _ _ c.if-out-lt13.false)
