use Prim.Native.Nat.{ℕ}
use mathlib.Core.Path.{sym, ◌∙◌, ap}
use Rattle.std.proofs.lemmas.Result.{err_from_is_err_and}
use Rattle.model.specs.Judging.{judge_behind}
use Rattle.windows.specs.Windows.{has_centre}
use Rattle.planner.proofs.PlanLaws.{request_refused, verdict_is}
use Rattle.planner.proofs.judge_request.Goals as goal

pub returns-in_err-steps : goal.returns-in_err-steps
returns-in_err-steps c =
    let p = err_from_is_err_and c.from_residual.result c.from_residual.ensures.1 in
    rw (p.1, p.2) (request_refused c.args.r c.args.rows.now _ (sym c.steps.ensures ∙ c.in_err-steps.was))

pub returns : goal.returns
returns c =
    let s = c.in_ok-steps.steps in
    c.judge_planned.ensures ∙ ap (λ (n : ℕ). judge_behind c.args.r.kernel (has_centre n c.args.r.window) s.total) c.dims_of.ensures
    ∙ verdict_is c.args.r c.args.rows.now s (sym c.steps.ensures ∙ c.in_ok-steps.was)
