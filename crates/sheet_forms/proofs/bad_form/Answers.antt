use mathlib.Core.Logic.{inl, inr}
use native.Mathlib.Omega.{arith}
use borrow.Author.Tests.{ne_eqb}
use Rattle.model_sheet.specs.Reading.{bad_form}
use Rattle.sheet_forms.proofs.bad_form.Goals as goal

pub returns-in-1 : goal.returns-in-1
unfolding bad_form
returns-in-1 c = rw c.in-1.is

pub returns-in-2 : goal.returns-in-2
unfolding bad_form
returns-in-2 c = elim c.in-2.is [ inl e ↦ rw e | inr r ↦ elim r [ inl e ↦ rw e | inr e ↦ rw e ] ]

pub returns-in-3 : goal.returns-in-3
unfolding bad_form
returns-in-3 c = elim c.in-3.is [ inl e ↦ rw e | inr e ↦ rw e ]

pub returns-in-4 : goal.returns-in-4
unfolding bad_form
returns-in-4 c = rw c.in-4.is c.bad_kernel.ensures

pub returns-in-7 : goal.returns-in-7
unfolding bad_form
returns-in-7 c = rw c.in-7.is

pub returns-in-9 : goal.returns-in-9
unfolding bad_form
returns-in-9 c = rw c.in-9.is

pub returns-in_default : goal.returns-in_default
unfolding bad_form
returns-in_default c =
    let k = c.args.kind in
    simp (ne_eqb k 1 (omega arith), ne_eqb k 2 (grind arith), ne_eqb k 3 (grind arith), ne_eqb k 4 (omega arith), ne_eqb k 5 (grind arith), ne_eqb k 6 (grind arith), ne_eqb k 7 (omega arith), ne_eqb k 8 (grind arith), ne_eqb k 9 (omega arith))
