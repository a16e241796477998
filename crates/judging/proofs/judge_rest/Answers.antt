use Prim.Native.Nat.{◌-◌}
use mathlib.Core.Bool.{true, false}
use mathlib.Core.Path.{◌≡◌, sym, ◌∙◌, ap}
use Rattle.std.proofs.lemmas.Result.{err_from_is_err_and}
use Rattle.model.specs.Lists.{tabulate, sum}
use Rattle.model.specs.Judging.{judge_behind}
use Rattle.geometry.specs.Parts.{number_at}
use Rattle.plan_steps.proofs.StepLaws.{total_in_lem}
use Rattle.judging.proofs.JudgeLaws.{rest_refused, rest_order}
use Rattle.judging.proofs.judge_rest.Goals as goal
use Rattle.judging.proofs.judge_rest.Goals.{After-judge_total}

-- 7, 8 and 9 by the sum of the capacities.
by-sum : (c : After-judge_total) →
    c.judge_total.result ≡ judge_behind c.args.kernel c.args.centred (sum (tabulate (c.args.count - 1) (number_at c.args.capacities.now)))
by-sum c =
    c.judge_total.ensures ∙ ap (judge_behind c.args.kernel c.args.centred) (c.total-total.ensures ∙ total_in_lem c.args.count c.args.capacities.now c.requires)

pub returns-in_err-judge_total : goal.returns-in_err-judge_total
returns-in_err-judge_total c =
    let p = err_from_is_err_and c.from_residual.result c.from_residual.ensures.1 in
    rw (p.1, p.2) (rest_refused _ _ _ _ _ _ (sym (by-sum (goal.at.returns-in_err-judge_total c).After-judge_total) ∙ c.in_err-judge_total.was))

pub returns-then-bad_order : goal.returns-then-bad_order
returns-then-bad_order c =
    rest_order _ _ _ _ _ true (sym (by-sum (goal.at.returns-then-bad_order c).After-judge_total) ∙ c.in_ok-judge_total.was) (sym c.bad_order.ensures ∙ c.if-bad_order.true)

pub returns-else-bad_order : goal.returns-else-bad_order
returns-else-bad_order c =
    rest_order _ _ _ _ _ false (sym (by-sum (goal.at.returns-else-bad_order c).After-judge_total) ∙ c.in_ok-judge_total.was) (sym c.bad_order.ensures ∙ c.if-bad_order.false)
