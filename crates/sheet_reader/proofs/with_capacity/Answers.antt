use Rattle.model_sheet.specs.Reading.{with_capacity}
use Rattle.sheet_reader.proofs.with_capacity.Goals as goal

pub returns : goal.returns
unfolding with_capacity
returns c = rw (c.set_capacities.ensures, c.set_capacity-capacities.ensures, c.word_in.ensures)
