use native.Mathlib.Omega.{arith}
use borrow.Author.Tests.{le-leb, lt-leb, ne_eqb}
use Rattle.model_sheet.specs.Reading.{bad_kernel}
use Rattle.sheet_forms.proofs.bad_kernel.Goals as goal

pub returns-in-0 : goal.returns-in-0
unfolding bad_kernel
returns-in-0 c = simp (le-leb c.args.second 1 (omega arith))

pub returns-in-2 : goal.returns-in-2
unfolding bad_kernel
returns-in-2 c = rw c.in-2.is

pub returns-in-3 : goal.returns-in-3
unfolding bad_kernel
returns-in-3 c = rw c.in-3.is

pub returns-in_default : goal.returns-in_default
unfolding bad_kernel
returns-in_default c =
    let s = c.args.second in
    simp (lt-leb s 1 (omega arith), ne_eqb s 2 (omega arith), ne_eqb s 3 (omega arith))
