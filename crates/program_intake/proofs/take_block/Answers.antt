use mathlib.Core.Path.{refl, ◌∙◌}
use native.Mathlib.Omega.{arith}
use Rattle.program_intake.proofs.LineLaws.{goes_on_lem, moves, at_end_lem}
use Rattle.program_intake.proofs.take_block.Goals as goal

pub loop-at-init : goal.loop-at-init
loop-at-init c = refl

pub loop-at-smaller : goal.loop-at-smaller
loop-at-smaller c =
    omega (arith, moves _ _ _ c.loop-at.at c.take_line-t.result _ c.take_line-t.ensures c.loop-at-test.true)

pub loop-at-preserved : goal.loop-at-preserved
loop-at-preserved c =
    goes_on_lem _ _ _ c.loop-at.at c.take_line-t.result _ c.take_line-t.ensures ∙ c.loop-at.invariant

pub returns : goal.returns
returns c =
    at_end_lem _ _ _ c.loop-at.at c.loop-at-test.false ∙ c.loop-at.invariant
