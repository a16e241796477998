-- The loop's invariant: the sizes from d on decide, with the cells counted in the dimensions before.
use Prim.Native.Nat.{◌≤◌}
use mathlib.Core.Path.{◌≡◌}
use lib.ListN.{take, drop}
use Rattle.model.specs.Judging.{most_cells, bad_sizes}
use Rattle.limits.proofs.SizeLaws.{bad_from}
use Rattle.limits.proofs.bad_sizes.Given as goal

abbrev pub invariant-loop-d : goal.invariant-loop-d
invariant-loop-d l =
    (l.cells ≤ most_cells) × (bad_from l.cells (drop l.d (take l.dims l.sizes)) ≡ bad_sizes (take l.dims l.sizes))
