use borrow.Author.Tests.{eq-eqb, ne_eqb}
use Rattle.sheet_verdicts.proofs.bad_grid.Goals as goal

pub returns-else-kind-eq1 : goal.returns-else-kind-eq1
returns-else-kind-eq1 c = simp (ne_eqb _ _ c.if-kind-eq1.false)

pub returns-then-kind-eq1 : goal.returns-then-kind-eq1
returns-then-kind-eq1 c = simp (eq-eqb _ _ c.if-kind-eq1.true, ← c.sizes_in.ensures) c.bad_sizes.ensures
