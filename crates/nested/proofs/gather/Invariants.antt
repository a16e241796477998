-- `gather` reads the cells of the references, each begun by character 4 * k. Assumes nothing.
use Prim.Native.Nat.{◌-◌}
use mathlib.Core.Path.{◌≡◌}
use Rattle.nested.specs.Nested.{gathered}
use Rattle.nested.proofs.gather.Given as goal

abbrev pub invariant-loop-k : goal.invariant-loop-k
invariant-loop-k l = gathered l.l l.window l.cells l.z l.y l.x l.k (32 - l.k) l.words ≡ gathered l.l l.window l.cells l.z l.y l.x 0 32 l.fn.before
