use native.Mathlib.Omega.{arith}
use lib.ListN.{length-set}
use Rattle.program_writer.proofs.LineCalls.{refusal_short, refusal_laid}
use Rattle.program_writer.proofs.put_refusal.Goals as goal

pub returns-then-out-lt5 : goal.returns-then-out-lt5
returns-then-out-lt5 c = refusal_short _ _ c.if-out-lt5.true

pub shape_of-out : goal.shape_of-out
shape_of-out c = simp length-set (omega arith)

pub returns : goal.returns
returns c =
    rw (c.put_byte-2.ensures, c.from.ensures, c.put_byte.ensures) (refusal_laid _ _ c.if-out-lt5.false)
