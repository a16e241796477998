use Prim.Native.Nat.{◌+◌}
use Rattle.geometry.specs.Parts.{number_at}
use Rattle.geometry.proofs.FillLaws.{filled_none}
use Rattle.shape.proofs.boxed.further.Goals as goal

pub loop-k-init : goal.loop-k-init
loop-k-init c = filled_none 32 0 (λ i. number_at c.args.at.now i + c.args.cells)
