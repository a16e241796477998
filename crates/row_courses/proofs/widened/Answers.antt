use mathlib.Core.Path.{sym, ◌∙◌}
use Rattle.model.specs.Values.{rows_of}
use Rattle.row_courses.proofs.DistanceLaws.{widen_none, widen_some}
use Rattle.row_courses.proofs.widened.Goals as goal

pub returns-then-row_length-eq0 : goal.returns-then-row_length-eq0
returns-then-row_length-eq0 c =
    widen_none (rows_of c.args.count c.args.rows.now) c.args.above.now c.args.course c.args.v c.args.r.now _ (sym c.row_length.ensures ∙ c.if-row_length-eq0.true) c.requires.1

pub returns : goal.returns
returns c =
    widen_some (rows_of c.args.count c.args.rows.now) c.args.above.now c.args.course c.args.v c.args.r.now _ c.reads.ensures _ c.min-n.ensures _ (λ z. c.if-row_length-eq0.false (c.row_length.ensures ∙ z)) c.farther.ensures
