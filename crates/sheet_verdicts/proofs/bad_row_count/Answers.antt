use borrow.Author.Tests.{eq-eqb, ne_eqb}
use Rattle.sheet_verdicts.proofs.bad_row_count.Goals as goal

pub returns-else-kind-eq9 : goal.returns-else-kind-eq9
returns-else-kind-eq9 c = simp (ne_eqb _ _ c.if-kind-eq9.false)

pub returns-then-kind-eq9 : goal.returns-then-kind-eq9
returns-then-kind-eq9 c = simp (eq-eqb _ _ c.if-kind-eq9.true) c.bad_row_count.ensures
