use Rattle.model_sheet.specs.Reading.{with_box}
use Rattle.sheet_reader.proofs.with_box.Goals as goal

pub returns : goal.returns
unfolding with_box
returns c = rw (c.set_bounds.ensures, c.lowest_in.ensures, c.highest_in.ensures)
