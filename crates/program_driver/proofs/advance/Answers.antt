use Rattle.program_driver.proofs.RoomLaws.{step_within}
use Rattle.program_driver.proofs.StepLaws.{by_sheet, by_cells, by_clocks, by_ending, by_refusing, by_over}
use Rattle.program_driver.proofs.advance.Goals as goal

pub returns-in-Sheet : goal.returns-in-Sheet
returns-in-Sheet c =
    let told =
    by_sheet _ _ _ _ _ _ _ _ _ _ c.in-Sheet.is c.read_sheet.ensures
    in record { text_after = told; within = step_within _ _ _ _ _ _ _ _ _ _ _ _ _ _ told }

pub returns-in-Cells : goal.returns-in-Cells
returns-in-Cells c =
    let told =
    by_cells _ _ _ _ _ _ _ _ _ _ c.in-Cells.is c.read_cells.ensures
    in record { text_after = told; within = step_within _ _ _ _ _ _ _ _ _ _ _ _ _ _ told }

pub returns-in-Clocks : goal.returns-in-Clocks
returns-in-Clocks c =
    let told =
    by_clocks _ _ _ _ _ _ _ _ _ c.in-Clocks.is c.run_on.ensures
    in record { text_after = told; within = step_within _ _ _ _ _ _ _ _ _ _ _ _ _ _ told }

pub returns-in-Ending : goal.returns-in-Ending
returns-in-Ending c =
    let told =
    by_ending _ _ _ _ _ _ _ _ _ _ _ _ c.in-Ending.is c.put_end-bytes.ensures c.staged.ensures
    in record { text_after = told; within = step_within _ _ _ _ _ _ _ _ _ _ _ _ _ _ told }

pub returns-in-Refusing : goal.returns-in-Refusing
returns-in-Refusing c =
    let told =
    by_refusing _ _ _ _ _ _ _ _ _ _ _ _ c.in-Refusing.is c.put_refusal-bytes.ensures c.staged-in-Refusing.ensures
    in record { text_after = told; within = step_within _ _ _ _ _ _ _ _ _ _ _ _ _ _ told }

pub returns-in-Over : goal.returns-in-Over
returns-in-Over c =
    let told =
    by_over _ _ _ _ _ _ _ _ c.in-Over.is
    in record { text_after = told; within = step_within _ _ _ _ _ _ _ _ _ _ _ _ _ _ told }
