use mathlib.Core.Path.{sym, ap, ◌∙◌}
use Rattle.std.proofs.lemmas.Result.{err_from_is_err_and}
use Rattle.model.specs.declared.Request.{Request}
use Rattle.model.specs.Planning.{judge_request}
use Rattle.sheet_calls.proofs.ReaderLaws.{request_read, end_refused, end_missing, end_judged}
use Rattle.sheet_calls.proofs.read_request.Goals as goal

pub returns-then-not-is_complete : goal.returns-then-not-is_complete
returns-then-not-is_complete c =
    request_read _ _ _ _ c.rows_of-rows.ensures c.read_lines-s.ensures (end_missing _ _ c.in_ok-s.was (sym c.is_complete.ensures ∙ c.if-not-is_complete.true))

pub returns-in_err-s : goal.returns-in_err-s
returns-in_err-s c =
    let p = err_from_is_err_and c.from_residual.result c.from_residual.ensures.1 in
    rw (p.1, p.2) (request_read _ _ _ _ c.rows_of-rows.ensures c.read_lines-s.ensures (end_refused _ _ _ c.in_err-s.was))

pub returns-in_err-judge_request : goal.returns-in_err-judge_request
returns-in_err-judge_request c =
    let p = err_from_is_err_and c.from_residual-in_err-judge_request.result c.from_residual-in_err-judge_request.ensures.1 in
    rw (p.1, p.2)
    (request_read _ _ _ _ c.rows_of-rows.ensures c.read_lines-s.ensures
    (end_judged _ _ c.in_ok-s.was (sym c.is_complete.ensures ∙ c.if-not-is_complete.false) _ (sym c.in_err-judge_request.was ∙ c.judge_request.ensures ∙ ap (λ (r : Request). judge_request r c.rows_of-rows.result) c.request_of-request.ensures)))

pub returns : goal.returns
returns c =
    rw c.request_of-request.ensures
    (request_read _ _ _ _ c.rows_of-rows.ensures c.read_lines-s.ensures
    (end_judged _ _ c.in_ok-s.was (sym c.is_complete.ensures ∙ c.if-not-is_complete.false) _ (sym c.in_ok-judge_request.was ∙ c.judge_request.ensures ∙ ap (λ (r : Request). judge_request r c.rows_of-rows.result) c.request_of-request.ensures)))
