use native.Mathlib.Omega.{arith}
use Rattle.loop_laws.specs.Passes.{of}
use Rattle.run_fill.proofs.SoundLaws.{housed_more, from_next, from_start}
use Rattle.run_fill.proofs.bad_rings.Goals as goal

pub loop-k-init : goal.loop-k-init
loop-k-init c = (from_start (of c.args.caps.now), λ j h. absurd (let z : ⊥ = omega arith in z))

pub loop-k-preserved : goal.loop-k-preserved
loop-k-preserved c =
    let g = c.bad_ring.ensures.0 c.if-bad_ring.false in (
      from_next c.args.room c.args.caps.now c.args.bases.now c.args.tops.now c.args.ps.now c.loop-k.k _ _ _ c.loop-k.invariant.0 g,
      housed_more c.args.room c.args.caps.now c.args.bases.now c.args.tops.now c.args.ps.now c.loop-k.k _ c.loop-k.invariant.0 c.loop-k.invariant.1 g,
    )
