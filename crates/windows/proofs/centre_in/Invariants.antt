use Prim.Native.Nat.{◌+◌}
use mathlib.Core.Path.{◌≡◌}
use Rattle.model.specs.Lists.{tabulate}
use Rattle.model.specs.Windows.{centre_of}
use Rattle.geometry.specs.Parts.{part, offset_at}
use Rattle.windows.proofs.centre_in.Given as goal

abbrev pub invariant-loop-k : goal.invariant-loop-k
invariant-loop-k l = l.k + centre_of (part (offset_at l.dims l.offsets) l.k l.count) ≡ centre_of (tabulate l.count (offset_at l.dims l.offsets))
