use mathlib.Core.Path.{sym, ◌∙◌}
use Rattle.model.specs.Judging.{lacks_centre}
use Rattle.judging.proofs.lacks_centre.Goals as goal

pub returns-then-needs_centre : goal.returns-then-needs_centre
unfolding lacks_centre
returns-then-needs_centre c = rw (sym c.needs_centre.ensures ∙ c.if-needs_centre.true)

pub returns-else-needs_centre : goal.returns-else-needs_centre
unfolding lacks_centre
returns-else-needs_centre c = rw (sym c.needs_centre.ensures ∙ c.if-needs_centre.false) c.if-needs_centre.false
