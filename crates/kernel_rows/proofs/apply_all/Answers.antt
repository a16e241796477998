use Rattle.kernel_rows.proofs.GivenLaws.{going_next, going_end}
use Rattle.kernel_rows.proofs.apply_all.Goals as goal

pub loop-i-preserved : goal.loop-i-preserved
loop-i-preserved c = going_next c.requires.is_width c.loop-i-test.true c.loop-i.invariant c.apply.ensures

pub returns : goal.returns
returns c = going_end c.loop-i-test.false c.loop-i.invariant
