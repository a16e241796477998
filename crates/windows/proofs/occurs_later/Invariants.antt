-- The loop's invariant: the references from j on decide.
use Prim.Native.Nat.{◌+◌}
use mathlib.Core.Path.{◌≡◌}
use Rattle.model.specs.Lists.{any}
use Rattle.model.specs.Vectors.{equal}
use Rattle.geometry.specs.Parts.{part, offset_at}
use Rattle.windows.proofs.occurs_later.Given as goal

abbrev pub invariant-loop-j : goal.invariant-loop-j
invariant-loop-j l =
    any (equal (offset_at l.dims l.offsets l.k)) (part (offset_at l.dims l.offsets) l.j l.count) ≡ any (equal (offset_at l.dims l.offsets l.k)) (part (offset_at l.dims l.offsets) (l.k + 1) l.count)
