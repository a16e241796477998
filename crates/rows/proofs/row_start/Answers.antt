use Prim.Native.Nat.{◌+◌}
use Prim.Native.Nat.{ℕ}
use mathlib.Core.Path.{◌∙◌, sym, ap}
use Rattle.model.specs.Values.{rows_of}
use Rattle.rows.specs.Courses.{start_in}
use Rattle.rows.proofs.CommonLaws.{column_boxed, column_whole}
use Rattle.rows.proofs.row_start.Goals as goal

pub returns-then-course : goal.returns-then-course
returns-then-course c = sym (column_boxed (rows_of c.args.count c.args.rows.now) c.args.course c.args.v c.if-course.true)

pub returns : goal.returns
returns c =
    let rs = rows_of c.args.count c.args.rows.now in
    c.columns_in-c.ensures.0
    ∙ ap (λ (n : ℕ). start_in rs c.args.course.down c.args.course.on n (c.args.course.top + c.args.v)) c.min-n.ensures
    ∙ sym (column_whole rs c.args.course c.args.v c.if-course.false)
