use mathlib.Core.Path.{refl}
use Rattle.zohmirka.proofs.zohmirka_version.Goals as goal

pub returns : goal.returns
returns c = refl
