use mathlib.Core.Path.{refl}
use Rattle.limits.proofs.too_many.Goals as goal

pub returns : goal.returns
returns c = refl
