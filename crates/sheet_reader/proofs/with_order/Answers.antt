use Rattle.model_sheet.specs.Reading.{with_order}
use Rattle.sheet_reader.proofs.with_order.Goals as goal

pub returns : goal.returns
unfolding with_order
returns c = rw (c.set_order.ensures, c.filters_in-filters.ensures)
