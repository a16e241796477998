use Prim.Native.Nat.{◌+◌}
use mathlib.Core.Path.{◌≡◌}
use Rattle.run_prepare.specs.Prepared.{number_at, walk_by}
use Rattle.run_prepare.proofs.walk.Given as goal

abbrev pub invariant-loop-d : goal.invariant-loop-d
invariant-loop-d l =
    (l.cells + walk_by (number_at l.extents) (number_at l.strides) l.d l.rest ≡ walk_by (number_at l.extents) (number_at l.strides) l.dims l.j)
