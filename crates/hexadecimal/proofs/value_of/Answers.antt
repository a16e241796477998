use native.Mathlib.Omega.{arith}
use Rattle.hexadecimal.proofs.value_of.Goals as goal

pub overflow_sub-result : goal.overflow_sub-result
overflow_sub-result c = omega (arith, c.zero_of.ensures.1)

pub returns : goal.returns
returns c = (c.zero_of.ensures.0, omega (arith, c.zero_of.ensures.2))
