use mathlib.Core.Path.{sym, ◌∙◌}
use Rattle.std.proofs.lemmas.Result.{err_from_is_err_and}
use Rattle.program_answer.proofs.AnswerLaws.{lines_refused, lines_missing, lines_planned}
use Rattle.program_answer.proofs.planned.Goals as goal

pub returns-in_err-s : goal.returns-in_err-s
returns-in_err-s c =
    let p = err_from_is_err_and c.from_residual.result c.from_residual.ensures.1 in
    rw (p.1, p.2) (lines_refused _ _ _ c.finish-s.ensures _ c.in_err-s.was)

pub returns-then-not-is_complete : goal.returns-then-not-is_complete
returns-then-not-is_complete c =
    lines_missing _ _ _ c.finish-s.ensures c.in_ok-s.was (sym c.is_complete.ensures ∙ c.if-not-is_complete.true)

pub returns : goal.returns
returns c =
    c.plan.ensures ∙ lines_planned _ _ _ c.finish-s.ensures c.in_ok-s.was (sym c.is_complete.ensures ∙ c.if-not-is_complete.false) _ c.request_of.ensures
