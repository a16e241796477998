use Rattle.program_driver.proofs.StepLaws.{sheet_step}
use Rattle.program_driver.proofs.read_sheet.Goals as goal

pub returns : goal.returns
returns c = sheet_step _ _ _ _ _ _ _ c.take_line-t.ensures c.sheet_stage.ensures
