use native.Mathlib.Nat.{mul-le-mul}
use native.Mathlib.Omega.{arith}
use Rattle.rows.proofs.boxed.iterations.Goals as goal

pub overflow_mul-result : goal.overflow_mul-result
overflow_mul-result c = omega (arith, mul-le-mul {n₁ = c.args.height} {m₁ = c.args.width} {n₂ = 512} {m₂ = 8192} c.requires.0 c.requires.1)
