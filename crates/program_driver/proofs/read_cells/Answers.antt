use Rattle.program_driver.proofs.StepLaws.{cells_step}
use Rattle.program_driver.proofs.read_cells.Goals as goal

pub returns : goal.returns
returns c = cells_step _ _ _ _ _ _ _ c.take_cells-t.ensures c.cells_stage.ensures
