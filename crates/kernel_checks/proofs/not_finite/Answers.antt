-- `not_finite` tells the infinite and what is no number from the rest. Assumes nothing.
use lib.Ieee.{nan_bits}
use Rattle.kernel_checks.proofs.FiniteLaws.{between, not_above, not_below}
use Rattle.kernel_checks.proofs.not_finite.Goals as goal

pub float_from_bits-infinity : goal.float_from_bits-infinity
unfolding nan_bits
float_from_bits-infinity c = tt

pub returns-then-infinity-x : goal.returns-then-infinity-x
returns-then-infinity-x c = between _ c.if-x-infinity.true c.if-infinity-x.true

pub returns-else-infinity-x : goal.returns-else-infinity-x
returns-else-infinity-x c = not_above _ c.if-infinity-x.false

pub returns-else-x-infinity : goal.returns-else-x-infinity
returns-else-x-infinity c = not_below _ c.if-x-infinity.false
