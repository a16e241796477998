use mathlib.Core.Path.{◌∙◌}
use Rattle.zohmirka_pairs.proofs.plan_words.Goals as goal

pub returns : goal.returns
returns c = rw c.number.ensures c.plan.ensures
