-- `needs_centre` names the kernels that need a centre. Assumes nothing.
use Rattle.model.specs.Judging.{needs_centre}
use Rattle.kernel_checks.proofs.needs_centre.Goals as goal

pub returns-in-Raw : goal.returns-in-Raw
unfolding needs_centre
returns-in-Raw c = rw c.in-Raw.is

pub returns-in-Difference : goal.returns-in-Difference
unfolding needs_centre
returns-in-Difference c = rw c.in-Difference.is

pub returns-in-Scaled : goal.returns-in-Scaled
unfolding needs_centre
returns-in-Scaled c = rw c.in-Scaled.is

pub returns-in-Blend : goal.returns-in-Blend
unfolding needs_centre
returns-in-Blend c = rw c.in-Blend.is
