use Rattle.zohmirka_pairs.proofs.PairLaws.{run_refused, run_ended}
use Rattle.zohmirka_pairs.proofs.run_words.Goals as goal

pub returns-in-Err : goal.returns-in-Err
returns-in-Err c =
    run_refused _ _ _ _ _ _ _ _ _ _ _ _ _ _ _ _ _ _ c.state_in.ensures c.chain_in.ensures c.side_in.ensures c.side_in-2.ensures c.run_pair-ran.ensures _ _ c.in-Err.is c.refused.ensures

pub returns-in-Ok : goal.returns-in-Ok
returns-in-Ok c =
    run_ended _ _ _ _ _ _ _ _ _ _ _ _ _ _ _ _ _ _ c.state_in.ensures c.chain_in.ensures c.side_in.ensures c.side_in-2.ensures c.run_pair-ran.ensures _ _ _ c.in-Ok.is c.state_out.ensures c.ended.ensures
