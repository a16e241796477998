use borrow.Author.Tests.{eq-eqb, ne_eqb}
use Rattle.model_sheet.specs.Reading.{miscounted}
use Rattle.sheet_order.proofs.is_miscounted.Goals as goal

pub returns-then-kind-eq3 : goal.returns-then-kind-eq3
unfolding miscounted
returns-then-kind-eq3 c = simp (eq-eqb _ _ c.if-kind-eq3.true)

pub returns-then-kind-eq4 : goal.returns-then-kind-eq4
unfolding miscounted
returns-then-kind-eq4 c = simp (ne_eqb _ _ c.if-kind-eq3.false, eq-eqb _ _ c.if-kind-eq4.true)

pub returns-then-kind-ne6 : goal.returns-then-kind-ne6
unfolding miscounted
returns-then-kind-ne6 c = simp (ne_eqb _ _ c.if-kind-eq3.false, ne_eqb _ _ c.if-kind-eq4.false, ne_eqb _ _ c.if-kind-ne6.true)

pub returns : goal.returns
unfolding miscounted
returns c = simp (ne_eqb _ _ c.if-kind-eq3.false, ne_eqb _ _ c.if-kind-eq4.false, eq-eqb _ _ c.if-kind-ne6.false)
