use mathlib.Core.Path.{◌∙◌}
use native.Mathlib.Omega.{arith}
use Rattle.rows.proofs.BackLaws.{sum_start, sum_on, sum_end}
use Rattle.rows.proofs.cells_in.Invariants.{cells_of}
use Rattle.rows.proofs.cells_in.Goals as goal

pub loop-i-init : goal.loop-i-init
loop-i-init c = (omega arith, sum_start (cells_of c.args.rows.now) c.args.count)

pub loop-i-preserved : goal.loop-i-preserved
loop-i-preserved c = (omega arith, omega (arith, sum_on (cells_of c.args.rows.now) c.loop-i.cells c.loop-i.i c.args.count (omega arith)))

pub returns : goal.returns
returns c = sum_end (cells_of c.args.rows.now) c.loop-i.cells c.loop-i.i c.args.count (omega arith) ∙ c.loop-i.invariant.1
