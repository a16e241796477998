use mathlib.Core.Path.{sym, ◌∙◌}
use native.Mathlib.Omega.{arith}
use lib.ListN.{get_or}
use borrow.Author.Tests.{ne_eqb}
use Rattle.model_sheet.specs.Reading.{taken}
use Rattle.sheet_laws.proofs.AcceptedLines.{taken_grid, taken_offset, taken_name, taken_box, taken_capacity, taken_order, taken_rows}
use Rattle.sheet_reader.proofs.accept_line.Goals as goal

pub returns-in-1 : goal.returns-in-1
returns-in-1 c = c.with_grid.ensures ∙ sym (taken_grid _ _ c.in-1.is)

pub with_offset-requires : goal.with_offset-requires
with_offset-requires c = c.requires.offset c.in-2.is

pub returns-in-2 : goal.returns-in-2
returns-in-2 c = c.with_offset.ensures ∙ sym (taken_offset _ _ c.in-2.is)

pub with_capacity-requires : goal.with_capacity-requires
with_capacity-requires c = c.requires.capacity c.in-3.is

pub returns-in-3 : goal.returns-in-3
returns-in-3 c = c.with_capacity.ensures ∙ sym (taken_capacity _ _ c.in-3.is)

pub returns-in-6 : goal.returns-in-6
returns-in-6 c = c.with_order.ensures ∙ sym (taken_order _ _ c.in-6.is)

pub returns-in-7 : goal.returns-in-7
returns-in-7 c = c.with_name.ensures ∙ sym (taken_name _ _ c.in-7.is)

pub returns-in-8 : goal.returns-in-8
returns-in-8 c = c.with_box.ensures ∙ sym (taken_box _ _ c.in-8.is)

pub returns-in-9 : goal.returns-in-9
returns-in-9 c = c.with_rows.ensures ∙ sym (taken_rows _ _ c.in-9.is)

pub returns-in_default : goal.returns-in_default
unfolding taken
returns-in_default c =
    let k = get_or c.args.x 0 0 in
    rw (
      ne_eqb k 1 (omega arith),
      ne_eqb k 2 (omega arith),
      ne_eqb k 3 (omega arith),
      ne_eqb k 6 (omega arith),
      ne_eqb k 7 (omega arith),
      ne_eqb k 8 (omega arith),
      ne_eqb k 9 (omega arith),
    ) c.with_kernel.ensures
