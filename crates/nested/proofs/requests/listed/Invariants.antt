-- `listed` places the references one after the other: as many are left as characters allow. Assumes nothing.
use Prim.Native.Nat.{◌*◌, ◌-◌}
use lib.ListN.{replicate}
use lib.IntN.{pos}
use mathlib.Core.Path.{◌≡◌}
use Rattle.nested.specs.Nested.{listed_from, references_in}
use Rattle.nested.proofs.requests.listed.Given as goal

abbrev pub invariant-loop-k : goal.invariant-loop-k
invariant-loop-k l = listed_from l.dims l.window (references_in l.window - l.k) (4 * l.k) l.entries ≡ listed_from l.dims l.window (references_in l.window) 0 (replicate 128 (pos 0))
