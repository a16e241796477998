use Rattle.model_sheet.specs.Reading.{with_grid}
use Rattle.sheet_reader.proofs.with_grid.Goals as goal

pub returns : goal.returns
unfolding with_grid
returns c = rw (c.set_grid.ensures, c.sizes_in-sizes.ensures)
