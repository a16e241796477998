use mathlib.Core.Path.{refl}
use Rattle.run_prepare.proofs.PrepareGuards.{taken_up}
use Rattle.run_prepare.proofs.take_up.Goals as goal

pub returns : goal.returns
returns c = λ t shaped capped.
    taken_up shaped.counted capped c.args.state _ c.saturating_sub.result c.bad_state.result _ _ _ _ refl c.saturating_sub.ensures
    c.passed_of.ensures.0 (c.wants_of.ensures t shaped) (c.wants_of-2.ensures t shaped) c.bad_state.ensures
