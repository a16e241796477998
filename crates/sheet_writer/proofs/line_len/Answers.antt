use Rattle.sheet_laws.specs.Sections.{len_of}
use Rattle.sheet_writer.proofs.line_len.Goals as goal

pub returns-in-Offset : goal.returns-in-Offset
unfolding len_of
returns-in-Offset c = rw (c.in-Offset.is, c.dims_of.ensures)

pub returns-in-Box : goal.returns-in-Box
unfolding len_of
returns-in-Box c = rw (c.in-Box.is, c.dims_of-in-Box.ensures)

pub returns-in-Capacity : goal.returns-in-Capacity
unfolding len_of
returns-in-Capacity c = rw c.in-Capacity.is

pub returns-in-Order : goal.returns-in-Order
unfolding len_of
returns-in-Order c = rw c.in-Order.is

pub returns-in-Kernel : goal.returns-in-Kernel
unfolding len_of
returns-in-Kernel c = rw c.in-Kernel.is c.kernel_len.ensures
