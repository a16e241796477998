-- `bad_factor` looks at every factor of the kernel. Assumes nothing.
use Rattle.model.specs.Judging.{bad_factor}
use Rattle.kernel_checks.proofs.bad_factor.Goals as goal

pub returns-then-not_finite : goal.returns-then-not_finite
unfolding bad_factor
returns-then-not_finite c = rw (c.in-Blend.is, ← c.not_finite-in-Blend.ensures, c.if-not_finite.true)

pub returns-in-Raw : goal.returns-in-Raw
unfolding bad_factor
returns-in-Raw c = rw c.in-Raw.is

pub returns-in-Difference : goal.returns-in-Difference
unfolding bad_factor
returns-in-Difference c = rw c.in-Difference.is

pub returns-in-Scaled : goal.returns-in-Scaled
unfolding bad_factor
returns-in-Scaled c = rw c.in-Scaled.is c.not_finite.ensures

pub returns-else-not_finite : goal.returns-else-not_finite
unfolding bad_factor
returns-else-not_finite c =
    rw (c.in-Blend.is, ← c.not_finite-in-Blend.ensures, c.if-not_finite.false) c.not_finite-in-Blend-2.ensures
