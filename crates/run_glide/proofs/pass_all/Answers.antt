use mathlib.Core.Path.{refl}
use Rattle.run_glide.proofs.FireLaws.{part_all, fires_raw}
use Rattle.run_glide.proofs.ManyLaws.{in_store, fired_none, fired_more}
use Rattle.run_glide.proofs.pass_all.Goals as goal
use Rattle.run_glide.proofs.pass_all.Goals.{In-loop-i}

pub loop-i-init : goal.loop-i-init
loop-i-init c = fired_none _ _ _ _ _ _ _ _ _ _ _ _ _ _ _ c.requires.rung.0

pub loop-i-preserved : goal.loop-i-preserved
loop-i-preserved c =
    let r = c.loop-i.invariant.rung in
    fired_more _ _ _ _ _ _ _ _ _ _ _ _ _ _ _ _ _ _ _ _ _ c.loop-i.invariant _ _ _ _ _ c.loop-i-test.true refl
    (fires_raw _ _ _ _ _ _ _ _ _ r.rings.some (in_store _ _ _ _ _ _ _ r) _ _ _ _ _ _ c.pass.ensures (part_all c.loop-i.words c.loop-i.at) refl)
