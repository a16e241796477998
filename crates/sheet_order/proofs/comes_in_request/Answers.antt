use Rattle.model.specs.Lists.{any}
use Rattle.model_sheet.specs.Reading.{next_in_request, among}
use Rattle.sheet_order.proofs.OrderLaws.{one_left}
use Rattle.sheet_order.proofs.comes_in_request.Goals as goal

pub returns-in-Nothing : goal.returns-in-Nothing
unfolding next_in_request
returns-in-Nothing c = rw c.in-Nothing.is c.among.ensures

pub returns-in-Grid : goal.returns-in-Grid
unfolding next_in_request
returns-in-Grid c = rw c.in-Grid.is c.among-in-Grid.ensures

pub returns-in-Offset : goal.returns-in-Offset
unfolding next_in_request
returns-in-Offset c = rw c.in-Offset.is c.among-in-Offset.ensures

pub returns-in-Name : goal.returns-in-Name
unfolding next_in_request
returns-in-Name c = rw c.in-Name.is c.among-in-Name.ensures

pub returns-in-Box : goal.returns-in-Box
unfolding next_in_request
returns-in-Box c = rw c.in-Box.is (one_left _ 4)

pub returns-in-Capacity : goal.returns-in-Capacity
unfolding next_in_request among any
returns-in-Capacity c = rw c.in-Capacity.is

pub returns-in-Order : goal.returns-in-Order
unfolding next_in_request among any
returns-in-Order c = rw c.in-Order.is

pub returns-in-Kernel : goal.returns-in-Kernel
unfolding next_in_request among any
returns-in-Kernel c = rw c.in-Kernel.is
