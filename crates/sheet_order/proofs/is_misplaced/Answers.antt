use Rattle.sheet_order.proofs.OrderLaws.{in_request, not_in_chain, in_chain}
use Rattle.sheet_order.proofs.is_misplaced.Goals as goal

pub returns-then-not-chained : goal.returns-then-not-chained
returns-then-not-chained c = in_request _ _ _ _ _ (c.if-not-chained.true) c.comes_in_request.ensures

pub returns-then-not-comes_in_chain : goal.returns-then-not-comes_in_chain
returns-then-not-comes_in_chain c =
    not_in_chain _ _ _ _ _ (c.if-not-chained.false) c.comes_in_chain.ensures (c.if-not-comes_in_chain.true)

pub returns : goal.returns
returns c =
    in_chain _ _ _ _ _ (c.if-not-chained.false) c.comes_in_chain.ensures (c.if-not-comes_in_chain.false) c.is_miscounted.ensures
