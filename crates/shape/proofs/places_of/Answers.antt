use Rattle.geometry.specs.Parts.{place_by}
use Rattle.geometry.proofs.FillLaws.{filled_none}
use Rattle.shape.proofs.places_of.Goals as goal

pub loop-k-init : goal.loop-k-init
loop-k-init c = filled_none 32 0 (place_by c.args.dims c.args.lows.now c.args.strides.now c.args.offsets.now)
