use native.Mathlib.Omega.{arith}
use Rattle.loop_laws.proofs.WalkLaws.{walking_again, walking_end}
use Rattle.run_glide.proofs.SlideLaws.{rest_low, sum_low}
use Rattle.run_glide.proofs.walk.Goals as goal

pub loop-d-preserved : goal.loop-d-preserved
loop-d-preserved c = (
  walking_again _ _ _ _ _ _ _ c.loop-d.invariant.0 c.loop-d-test.true,
  rest_low _ _ c.loop-d.invariant.1,
  sum_low _ _ _ _ _ c.loop-d.invariant.1 c.loop-d.invariant.2 (c.requires.0.each _ c.loop-d-test.true).1,
)

pub returns : goal.returns
returns c =
    (walking_end _ _ _ _ _ _ _ c.loop-d.invariant.0 c.loop-d-test.false, omega (arith, c.loop-d.invariant.2, c.loop-d.invariant.0.range, c.requires.0.few))
