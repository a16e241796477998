use Rattle.zohmirka_runs.proofs.RunLaws.{run_refused, run_ended}
use Rattle.zohmirka_runs.proofs.run_value.Goals as goal

pub returns-in-Err : goal.returns-in-Err
returns-in-Err c =
    run_refused _ _ _ _ _ _ _ _ _ _ _ c.state_in-before.ensures c.run-ran.ensures _ _ c.in-Err.is c.refused.ensures

pub returns-in-Ok : goal.returns-in-Ok
returns-in-Ok c =
    run_ended _ _ _ _ _ _ _ _ _ _ _ c.state_in-before.ensures c.run-ran.ensures _ _ _ c.in-Ok.is c.state_out.ensures c.ended.ensures
