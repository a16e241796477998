use Prim.Native.Nat.{ℕ}
use mathlib.Core.Path.{◌∙◌, ap}
use lib.Dec.{ltb}
use Rattle.windows.proofs.OffsetLaws.{centre_below}
use Rattle.windows.proofs.has_centre.Goals as goal

pub returns : goal.returns
returns c =
    ap (λ (k : ℕ). ltb k c.args.window.count) c.centre.ensures ∙ centre_below c.args.dims c.args.window
