use native.Mathlib.Omega.{arith}
use Rattle.sheet_writer.proofs.to_capacities.Goals as goal

pub returns-then-boxed : goal.returns-then-boxed
returns-then-boxed c = rw c.if-boxed.true

pub returns : goal.returns
returns c = rw c.if-boxed.false (omega arith)
