use native.Mathlib.Omega.{arith}
use lib.ListN.{length-set}
use Rattle.program_writer.proofs.DigitLaws.{byte_laid}
use Rattle.program_writer.proofs.put_byte.Goals as goal

pub bounds-out-at-2 : goal.bounds-out-at-2
bounds-out-at-2 c = simp length-set (omega arith)

pub shape_of-out : goal.shape_of-out
shape_of-out c = simp length-set

pub returns : goal.returns
returns c = rw (c.low_digit.ensures, c.high_digit.ensures) (byte_laid _ _ _)
