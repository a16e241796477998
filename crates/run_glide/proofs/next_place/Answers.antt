use Rattle.loop_laws.proofs.PassLaws.{step_back, step_up}
use Rattle.run_glide.proofs.next_place.Goals as goal

pub returns-then-u-top : goal.returns-then-u-top
returns-then-u-top c = step_back _ _ _ c.if-u-top.true

pub returns : goal.returns
returns c = step_up _ _ _ c.if-u-top.false
