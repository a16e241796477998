use borrow.Author.Tests.{eq-eqb, ne_eqb}
use Rattle.model_sheet.specs.Reading.{malformed}
use Rattle.sheet_forms.proofs.is_malformed.Goals as goal

pub returns-then-not-sound : goal.returns-then-not-sound
unfolding malformed
returns-then-not-sound c = simp (c.if-not-sound.true)

pub returns-then-len-eq0 : goal.returns-then-len-eq0
unfolding malformed
returns-then-len-eq0 c = simp (c.if-not-sound.false, eq-eqb _ _ c.if-len-eq0.true)

pub returns : goal.returns
unfolding malformed
returns c = simp (c.if-not-sound.false, ne_eqb _ _ c.if-len-eq0.false) c.bad_form.ensures
