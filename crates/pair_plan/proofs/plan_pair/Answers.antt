use mathlib.Core.Path.{◌≡◌}
use Rattle.std.proofs.lemmas.Result.{err_from_is_err_and}
use Rattle.model.specs.Answers.{verdict_of}
use Rattle.pair_judging.specs.Verdicts.{earlier_of}
use Rattle.pair_plan.proofs.PairLaws.{verdict_is, refused_so, accepted_so}
use Rattle.pair_plan.proofs.plan_pair.Goals as goal
use Rattle.pair_plan.proofs.plan_pair.Goals.{After-earlier}

-- The earlier of the two verdicts.
earlier-is : (e : After-earlier) → e.earlier.result ≡ earlier_of (verdict_of e.plan-planned.result) e.judge_sides-added.result
earlier-is e = rw (verdict_is e.plan-planned.result e.map.result _ e.map.ensures.variant e.map.ensures.cases) at e.earlier.ensures

pub returns-in_err-earlier : goal.returns-in_err-earlier
returns-in_err-earlier c =
    let a = c.args in
    let p = err_from_is_err_and c.from_residual.result c.from_residual.ensures.1 in
    rw (p.1, p.2) (
    refused_so a.grid a.rows.now a.bounds a.first a.second _ c.dims_of-dims.ensures _ c.union_window-window.ensures _ c.plan-planned.ensures _ c.judge_sides-added.ensures
    _ (earlier-is (goal.at.returns-in_err-earlier c).After-earlier) _ c.in_err-earlier.was
    )

pub returns : goal.returns
returns c =
    let a = c.args in
    accepted_so a.grid a.rows.now a.bounds a.first a.second _ c.dims_of-dims.ensures _ c.union_window-window.ensures _ c.plan-planned.ensures _ c.judge_sides-added.ensures
    _ (earlier-is (goal.at.returns c).After-earlier) c.in_ok-earlier.was c.in_ok-chain.chain c.in_ok-chain.was c.rising_order-order.result c.rising_order-order.ensures c.set_order.result c.set_order.ensures
