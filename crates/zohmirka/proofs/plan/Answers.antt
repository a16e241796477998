use mathlib.Core.Path.{sym, ◌∙◌}
use Rattle.std.proofs.lemmas.Result.{err_from_is_err_and}
use Rattle.zohmirka.proofs.FaceCalls.{request_refused, plan_refused, plan_written, flat_plan_refused, flat_plan_written}
use Rattle.zohmirka.proofs.plan.Goals as goal

pub returns-in_err-asked : goal.returns-in_err-asked
returns-in_err-asked c =
    let p = err_from_is_err_and c.from_residual.result c.from_residual.ensures.1 in
    rw (p.1, p.2) (request_refused _ _ _ (sym c.read_request.ensures ∙ c.in_err-asked.was))

pub returns-in_err-on_rows : goal.returns-in_err-on_rows
returns-in_err-on_rows c =
    let p = err_from_is_err_and c.from_residual-in_err-on_rows.result c.from_residual-in_err-on_rows.ensures.1 in
    rw (p.1, p.2) (plan_refused _ _ _ (sym c.read_request.ensures ∙ c.in_ok-asked.was) _ _ c.rows_of-rows.ensures (sym c.plan.ensures ∙ c.in_err-on_rows.was))

pub returns-then-asked : goal.returns-then-asked
returns-then-asked c =
    plan_written _ _ _ (sym c.read_request.ensures ∙ c.in_ok-asked.was) _ _ _ _ c.rows_of-rows.ensures (sym c.plan.ensures ∙ c.in_ok-on_rows.was) c.write_chain.ensures

pub returns-in_err-planned : goal.returns-in_err-planned
returns-in_err-planned c =
    let p = err_from_is_err_and c.from_residual-in_err-planned.result c.from_residual-in_err-planned.ensures.1 in
    rw (p.1, p.2) (flat_plan_refused _ _ _ (sym c.read_request.ensures ∙ c.in_ok-asked.was) c.if-asked.false _ _ (sym c.plan-2.ensures ∙ c.in_err-planned.was))

pub returns : goal.returns
returns c =
    flat_plan_written _ _ _ (sym c.read_request.ensures ∙ c.in_ok-asked.was) c.if-asked.false _ _ _ _ _ (sym c.plan-2.ensures ∙ c.in_ok-planned.was) c.write_chain-2.ensures
