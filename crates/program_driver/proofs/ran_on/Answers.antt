use Rattle.std.proofs.Common.{ap, arith}
use Rattle.model.specs.declared.Counts.{Counts}
use Rattle.program_driver.proofs.ran_on.Goals as goal

pub overflow_add-result : goal.overflow_add-result
overflow_add-result c = omega (arith, c.requires, c.ranges.to, ap (λ (x : Counts). x.cells) c.counts_of-c.ensures)

pub returns : goal.returns
returns c = cc
