use mathlib.Core.Path.{sym, ◌∙◌}
use Rattle.std.proofs.lemmas.Result.{err_from_is_err_and}
use Rattle.zohmirka_pairs.proofs.PairLaws.{plan_refused, plan_short, plan_written}
use Rattle.zohmirka_pairs.proofs.plan.Goals as goal

pub returns-in_err-planned : goal.returns-in_err-planned
returns-in_err-planned c =
    let p = err_from_is_err_and c.from_residual.result c.from_residual.ensures.1 in
    rw (p.1, p.2) (plan_refused _ _ _ _ _ _ _ _ c.chain_in-given.ensures c.side_in.ensures c.side_in-2.ensures _ (sym c.plan_pair.ensures ∙ c.in_err-planned.was))

pub returns-then-chain-lt212 : goal.returns-then-chain-lt212
returns-then-chain-lt212 c =
    plan_short _ _ _ _ _ _ _ _ c.chain_in-given.ensures c.side_in.ensures c.side_in-2.ensures _ (sym c.plan_pair.ensures ∙ c.in_ok-planned.was) c.if-chain-lt212.true

pub returns : goal.returns
returns c =
    plan_written _ _ _ _ _ _ _ _ c.chain_in-given.ensures c.side_in.ensures c.side_in-2.ensures _ _ (sym c.plan_pair.ensures ∙ c.in_ok-planned.was) c.if-chain-lt212.false c.chain_out.ensures
