use borrow.Author.Tests.{eq-eqb, ne_eqb}
use Rattle.sheet_verdicts.proofs.too_many.Goals as goal

pub returns-else-kind-eq2 : goal.returns-else-kind-eq2
returns-else-kind-eq2 c = simp (ne_eqb _ _ c.if-kind-eq2.false)

pub returns-then-kind-eq2 : goal.returns-then-kind-eq2
returns-then-kind-eq2 c = simp (eq-eqb _ _ c.if-kind-eq2.true) c.too_many.ensures
