use Prim.Native.Nat.{◌+◌, ◌≤◌}
use mathlib.Core.Path.{refl, ◌∙◌, ap₂}
use native.Mathlib.Omega.{arith}
use Rattle.model.specs.Values.{rows_of}
use Rattle.rows.specs.Courses.{row_length}
use Rattle.row_courses.specs.CourseTables.{lengths_above}
use Rattle.row_courses.proofs.TableLaws.{lengths_next, row_most, filled_first, filled_at}
use Rattle.row_courses.proofs.iterations_above.Goals as goal
use Rattle.row_courses.proofs.iterations_above.Goals.{After-row_length-iterations}

pub loop-v-init : goal.loop-v-init
unfolding lengths_above
loop-v-init c =
    (omega (arith, c.min-n.ensures), omega arith, refl, filled_first 513 (lengths_above (row_length (rows_of c.args.count c.args.rows.now) c.args.course)) refl)

short : (c : After-row_length-iterations) → c.row_length-iterations.result ≤ 1024
short c =
    omega (arith, c.row_length-iterations.ensures, row_most (rows_of c.args.count c.args.rows.now) c.args.course c.loop-v.v)

pub overflow_add-iterations : goal.overflow_add-iterations
overflow_add-iterations c = omega (arith, short c)

pub loop-v-preserved : goal.loop-v-preserved
loop-v-preserved c =
    let next = ap₂ ◌+◌ c.loop-v.invariant.2 c.row_length-iterations.ensures ∙ lengths_next (row_length (rows_of c.args.count c.args.rows.now) c.args.course) c.loop-v.v in
    (c.loop-v.invariant.0, omega (arith, short (goal.at.loop-v-preserved c).After-row_length-iterations), next, filled_at 513 (lengths_above (row_length (rows_of c.args.count c.args.rows.now) c.args.course)) (c.loop-v.v + 1) _ c.loop-v.to _ refl (omega arith) next c.loop-v.invariant.3)
