use native.Mathlib.Omega.{arith}
use Rattle.run_fill.proofs.SoundLaws.{counters_more, source_next, source_start}
use Rattle.run_fill.proofs.bad_counters.Goals as goal

pub loop-k-init : goal.loop-k-init
loop-k-init c = (source_start _ _, λ j h. absurd (let z : ⊥ = omega arith in z))

pub loop-k-preserved : goal.loop-k-preserved
loop-k-preserved c =
    let g = c.bad_counter.ensures.0 c.if-bad_counter.false in
    (source_next c.args.size c.args.ps.now c.loop-k.k, counters_more c.args.size _ c.args.at.now c.args.wants.now c.args.ps.now c.loop-k.k _ c.loop-k.invariant.0 c.loop-k.invariant.1 g)
