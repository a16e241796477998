use Prim.Native.Nat.{ℕ, ◌+◌, min}
use mathlib.Core.Path.{refl, ◌∙◌, ap}
use native.Mathlib.Omega.{arith}
use Rattle.model.specs.Values.{rows_of}
use Rattle.geometry.proofs.FillLaws.{filled_none, filled_up_to}
use Rattle.row_courses.proofs.TableLaws.{read_by, reads_are}
use Rattle.row_courses.proofs.reads.Goals as goal

pub loop-k-init : goal.loop-k-init
loop-k-init c =
    (omega (arith, c.min-n.ensures), omega arith, omega (arith, c.min-column.ensures), filled_none 32 0 (read_by (rows_of c.args.count c.args.rows.now) c.args.above.now c.args.course.down c.args.course.on (c.args.course.top + c.args.v) c.min-column.result))

pub returns : goal.returns
returns c =
    reads_are (rows_of c.args.count c.args.rows.now) c.args.above.now c.args.course c.args.v _ _ _ _ refl
    (c.min-column.ensures ∙ ap (λ (x : ℕ). min x 8192) c.row_start.ensures) c.min-n.ensures
    (filled_up_to 32 0 (read_by (rows_of c.args.count c.args.rows.now) c.args.above.now c.args.course.down c.args.course.on (c.args.course.top + c.args.v) c.min-column.result) c.loop-k.k _ c.loop-k.to (omega arith) c.loop-k.invariant.3)
