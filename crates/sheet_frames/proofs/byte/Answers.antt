use mathlib.Core.Path.{sym}
use native.Mathlib.Omega.{arith}
use Rattle.sheet_frames.proofs.NumberLaws.{byte_none, byte_some}
use Rattle.sheet_frames.proofs.byte.Goals as goal

pub returns-then-line-at : goal.returns-then-line-at
returns-then-line-at c =
    (sym (byte_none c.args.line.now c.args.i c.if-line-at.true), omega arith)

pub returns : goal.returns
returns c =
    (rw (c.value_of.ensures.0, c.value_of-2.ensures.0) (sym (byte_some c.args.line.now c.args.i c.if-line-at.false)), omega (arith, c.value_of.ensures.1, c.value_of-2.ensures.1))
