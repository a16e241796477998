use Prim.Native.Nat.{◌≤◌}
use mathlib.Core.Path.{◌∙◌}
use native.Mathlib.Omega.{arith}
use Rattle.model.specs.Values.{rows_of}
use Rattle.rows.specs.Courses.{length_in}
use Rattle.rows.proofs.BackLaws.{sum_start, sum_on, sum_end}
use Rattle.rows.proofs.iterations_in.Goals as goal
use Rattle.rows.proofs.iterations_in.Goals.{After-length_in-iterations}

pub loop-u-init : goal.loop-u-init
loop-u-init c = (omega arith, sum_start (length_in (rows_of c.args.count c.args.rows.now) c.args.down.now c.args.on.now c.args.n) c.args.count)

most : (c : After-length_in-iterations) → c.length_in-iterations.result ≤ 1024
unfolding length_in
most c = let e = c.length_in-iterations.ensures in omega arith

pub overflow_add-iterations : goal.overflow_add-iterations
overflow_add-iterations c = omega (arith, most c)

pub loop-u-preserved : goal.loop-u-preserved
loop-u-preserved c =
    (omega (arith, most c), omega (arith, sum_on (length_in (rows_of c.args.count c.args.rows.now) c.args.down.now c.args.on.now c.args.n) c.loop-u.iterations c.loop-u.u c.args.count (omega arith)))

pub returns : goal.returns
returns c =
    sum_end (length_in (rows_of c.args.count c.args.rows.now) c.args.down.now c.args.on.now c.args.n) c.loop-u.iterations c.loop-u.u c.args.count (omega arith) ∙ c.loop-u.invariant.1
