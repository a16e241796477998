use mathlib.Core.Path.{refl}
use Rattle.model.specs.Lists.{tabulate}
use Rattle.shape.specs.Shapes.{blank_shape}
use Rattle.shape.proofs.blank.Goals as goal

pub returns : goal.returns
unfolding blank_shape tabulate
returns c = refl
