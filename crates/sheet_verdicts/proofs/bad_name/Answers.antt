use borrow.Author.Tests.{eq-eqb, ne_eqb}
use Rattle.sheet_verdicts.proofs.bad_name.Goals as goal

pub returns-else-kind-eq7 : goal.returns-else-kind-eq7
returns-else-kind-eq7 c = simp (ne_eqb _ _ c.if-kind-eq7.false)

pub returns-then-kind-eq7 : goal.returns-then-kind-eq7
returns-then-kind-eq7 c = simp (eq-eqb _ _ c.if-kind-eq7.true) c.bad_name.ensures
