use native.Mathlib.Omega.{arith}
use Rattle.row_courses.proofs.TableLaws.{entry_there, entry_past}
use Rattle.row_courses.proofs.entry.Goals as goal

pub returns-then-i-lt513 : goal.returns-then-i-lt513
returns-then-i-lt513 c = (entry_there c.args.above.now c.args.i c.if-i-lt513.true, omega arith)

pub returns : goal.returns
returns c = (entry_past c.args.above.now c.args.i c.if-i-lt513.false, omega arith)
