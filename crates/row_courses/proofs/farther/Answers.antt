use Prim.Native.Nat.{◌+◌, ◌-◌, max}
use Rattle.geometry.specs.Parts.{number_at}
use Rattle.geometry.proofs.FillLaws.{filled_none}
use Rattle.row_courses.proofs.farther.Goals as goal

pub loop-k-init : goal.loop-k-init
loop-k-init c = filled_none 31 0 (λ i. max (number_at c.args.at.now i - number_at c.args.at.now (i + 1)) (number_at c.args.r.now i))
