-- `walk` adds up the cells of each index. Assumes nothing.
use Prim.Native.Nat.{◌*◌, ◌≤◌}
use Rattle.loop_laws.proofs.WalkLaws.{Walking}
use Rattle.run_glide.proofs.walk.Given as goal

abbrev pub invariant-loop-d : goal.invariant-loop-d
invariant-loop-d l = Walking l.spans l.strides l.dims l.j l.sum l.left l.d × (l.left ≤ 1048576) × (l.sum ≤ l.d * 1099511627776)
