-- `index` does not wrap: its numbers are below 2 ^ 20. Assumes nothing.
use native.Mathlib.Nat.{mul-le-mul}
use native.Mathlib.Omega.{arith}
use Rattle.nested.proofs.index.Goals as goal

pub overflow_mul-result : goal.overflow_mul-result
overflow_mul-result c = omega (arith, mul-le-mul {n₁ = c.args.a} {m₁ = c.args.size} {n₂ = 1048575} {m₂ = 1048575} (omega arith) (omega arith))

pub overflow_add-result : goal.overflow_add-result
overflow_add-result c = omega (arith, mul-le-mul {n₁ = c.args.a} {m₁ = c.args.size} {n₂ = 1048575} {m₂ = 1048575} (omega arith) (omega arith))
