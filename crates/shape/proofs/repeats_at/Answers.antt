use mathlib.Core.Path.{sym}
use Rattle.shape.proofs.repeats_at.Goals as goal

pub returns-then-falls : goal.returns-then-falls
returns-then-falls c = sym (c.requires.1 (c.falls.ensures c.if-falls.true))
