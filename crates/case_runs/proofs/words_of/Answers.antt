use Rattle.std.proofs.Common.{◌%◌, mul-le-mul, arith}
use Rattle.case_runs.proofs.words_of.Goals as goal

pub overflow_mul-result : goal.overflow_mul-result
overflow_mul-result c = omega (arith, mul-le-mul {n₁ = c.args.firings} {m₁ = c.args.width % 4294967296} {n₂ = 4294967295} {m₂ = 4294967295} (omega arith) (omega arith))
