use mathlib.Core.Path.{refl}
use Rattle.run_prepare.proofs.PrepareGuards.{taken_up}
use Rattle.run_prepare.proofs.skewed.take_up_rows.Goals as goal

pub returns : goal.returns
returns c = λ t counted reads capped. (
  _,
  taken_up counted capped c.args.state _ c.saturating_sub.result c.bad_state.result _ _ _ _ refl c.saturating_sub.ensures
      c.passed_of.ensures.0 (c.wants_in.ensures t counted reads) (c.wants_in-2.ensures t counted reads) c.bad_state.ensures,
)
