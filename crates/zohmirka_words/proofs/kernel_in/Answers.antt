use borrow.Author.Tests.{eq-eqb, ne_eqb}
use Rattle.zohmirka_words.specs.Words.{kernel_in}
use Rattle.zohmirka_words.proofs.kernel_in.Goals as goal

pub returns-then-which-eq0 : goal.returns-then-which-eq0
unfolding kernel_in
returns-then-which-eq0 c = simp (eq-eqb _ _ c.if-which-eq0.true)

pub returns-then-which-eq1 : goal.returns-then-which-eq1
unfolding kernel_in
returns-then-which-eq1 c = simp (ne_eqb _ _ c.if-which-eq0.false, eq-eqb _ _ c.if-which-eq1.true)

pub returns-then-which-eq2 : goal.returns-then-which-eq2
unfolding kernel_in
returns-then-which-eq2 c = simp (ne_eqb _ _ c.if-which-eq0.false, ne_eqb _ _ c.if-which-eq1.false, eq-eqb _ _ c.if-which-eq2.true, c.float_of.ensures)

pub returns-then-which-eq3 : goal.returns-then-which-eq3
unfolding kernel_in
returns-then-which-eq3 c =
    simp (
      ne_eqb _ _ c.if-which-eq0.false,
      ne_eqb _ _ c.if-which-eq1.false,
      ne_eqb _ _ c.if-which-eq2.false,
      eq-eqb _ _ c.if-which-eq3.true,
      c.float_of-then-which-eq3.ensures,
      c.float_of-then-which-eq3-2.ensures,
    )

pub returns : goal.returns
unfolding kernel_in
returns c =
    simp (
      ne_eqb _ _ c.if-which-eq0.false,
      ne_eqb _ _ c.if-which-eq1.false,
      ne_eqb _ _ c.if-which-eq2.false,
      ne_eqb _ _ c.if-which-eq3.false,
      c.float_of-2.ensures,
    )
