use Rattle.model_sheet.specs.Reading.{with_name}
use Rattle.sheet_reader.proofs.with_name.Goals as goal

pub returns : goal.returns
unfolding with_name
returns c = rw (c.set_window.ensures, c.window_of-window.ensures)
