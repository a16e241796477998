use native.Mathlib.Omega.{arith}
use borrow.Author.Tests.{ne_eqb}
use Rattle.model_sheet.specs.Reading.{bad_length}
use Rattle.sheet_forms.proofs.bad_length.Goals as goal

pub returns-in-1 : goal.returns-in-1
unfolding bad_length
returns-in-1 c = rw c.in-1.is

pub returns-in-9 : goal.returns-in-9
unfolding bad_length
returns-in-9 c = rw c.in-9.is

pub returns-in-2 : goal.returns-in-2
unfolding bad_length
returns-in-2 c = rw c.in-2.is

pub returns-in-6 : goal.returns-in-6
unfolding bad_length
returns-in-6 c = rw c.in-6.is

pub returns-in-8 : goal.returns-in-8
unfolding bad_length
returns-in-8 c = rw c.in-8.is

pub returns-in_default : goal.returns-in_default
unfolding bad_length
returns-in_default c =
    let k = c.args.kind in
    simp (ne_eqb k 1 (omega arith), ne_eqb k 9 (omega arith), ne_eqb k 2 (omega arith), ne_eqb k 6 (omega arith), ne_eqb k 8 (omega arith))
