use Prim.Native.Nat.{◌≤◌}
use native.Mathlib.Omega.{arith}
use borrow.Author.Tests.{le-leb, lt-leb}
use Rattle.model_sheet.specs.Frames.{value_of}
use Rattle.hexadecimal.proofs.zero_of.Goals as goal

pub returns-then-c-lt48 : goal.returns-then-c-lt48
unfolding value_of
returns-then-c-lt48 c = let low : c.args.c ≤ 57 = omega arith in (simp (le-leb _ _ low) (omega arith), omega arith, omega arith)

pub returns-then-c-le57 : goal.returns-then-c-le57
unfolding value_of
returns-then-c-le57 c = (simp (le-leb _ _ c.if-c-le57.true), omega arith, omega arith)

pub returns : goal.returns
unfolding value_of
returns c = (simp (lt-leb _ _ c.if-c-le57.false), omega arith, omega arith)
