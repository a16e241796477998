use native.Mathlib.Omega.{arith}
use Rattle.sheet_laws.specs.Sections.{row_of}
use Rattle.sheet_writer.proofs.LayLaws.{offset_inside, capacity_inside}
use Rattle.sheet_writer.proofs.row.Goals as goal

pub offset_row-requires : goal.offset_row-requires
offset_row-requires c =
    omega (arith, c.requires.0, offset_inside _ _ _ c.requires.1 c.in-Offset.is)

pub offset_bounds-c-k : goal.offset_bounds-c-k
offset_bounds-c-k c = omega (arith, capacity_inside _ _ _ c.requires.1 c.in-Capacity.is, c.requires.0)

pub bounds-c-k : goal.bounds-c-k
bounds-c-k c = omega (arith, capacity_inside _ _ _ c.requires.1 c.in-Capacity.is, c.requires.0)

pub returns-in-Offset : goal.returns-in-Offset
unfolding row_of
returns-in-Offset c = rw c.in-Offset.is c.offset_row.ensures

pub returns-in-Box : goal.returns-in-Box
unfolding row_of
returns-in-Box c = rw c.in-Box.is c.box_row.ensures

pub returns-in-Capacity : goal.returns-in-Capacity
unfolding row_of
returns-in-Capacity c = rw c.in-Capacity.is c.capacity_row.ensures

pub returns-in-Order : goal.returns-in-Order
unfolding row_of
returns-in-Order c = rw c.in-Order.is c.order_row.ensures

pub returns-in-Kernel : goal.returns-in-Kernel
unfolding row_of
returns-in-Kernel c = rw c.in-Kernel.is c.kernel_row.ensures
