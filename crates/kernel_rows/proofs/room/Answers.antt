-- `room` tests what `fits` asks for, one after the other. Assumes nothing.
use native.Mathlib.Omega.{arith}
use Rattle.std.proofs.lemmas.Bool.Decides.{nat_tests}
use Rattle.kernel_rows.specs.Given.{fits}
use Rattle.kernel_rows.proofs.room.Goals as goal

pub returns-then-at-places : goal.returns-then-at-places
unfolding fits
returns-then-at-places c = grind (arith, nat_tests)

pub returns-else-at-places : goal.returns-else-at-places
unfolding fits
returns-else-at-places c = grind (arith, nat_tests)
