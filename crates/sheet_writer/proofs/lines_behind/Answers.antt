use Prim.Native.Nat.{◌≤◌}
use native.Mathlib.Omega.{arith}
use Rattle.sheet_laws.specs.Sections.{lines_behind}
use Rattle.sheet_writer.proofs.LayLaws.{few_ahead}
use Rattle.sheet_writer.proofs.lines_behind.Goals as goal
use Rattle.sheet_writer.proofs.lines_behind.Goals.{After-to_capacities-ahead}

short : (c : After-to_capacities-ahead) → c.to_capacities-ahead.result ≤ 33
short c = omega (arith, c.to_capacities-ahead.ensures, few_ahead c.args.boxed c.args.n, c.requires)

pub overflow_add-result : goal.overflow_add-result
overflow_add-result c = omega (arith, short (goal.at.overflow_add-result c).After-to_capacities-ahead, c.requires)

pub overflow_add-result-then-ordered : goal.overflow_add-result-then-ordered
overflow_add-result-then-ordered c = omega (arith, short (goal.at.overflow_add-result-then-ordered c).After-to_capacities-ahead, c.requires)

pub returns-then-ordered : goal.returns-then-ordered
unfolding lines_behind
returns-then-ordered c = rw (c.if-ordered.true, c.to_capacities-ahead.ensures)

pub overflow_add-result-2 : goal.overflow_add-result-2
overflow_add-result-2 c = omega (arith, short (goal.at.overflow_add-result-2 c).After-to_capacities-ahead, c.requires)

pub returns : goal.returns
unfolding lines_behind
returns c = rw (c.if-ordered.false, c.to_capacities-ahead.ensures) (omega arith)
