use Rattle.model_sheet.specs.Reading.{with_rows}
use Rattle.sheet_reader.proofs.with_rows.Goals as goal

pub returns : goal.returns
unfolding with_rows
returns c = rw (c.set_grid.ensures, c.row_count_in-rows.ensures)
