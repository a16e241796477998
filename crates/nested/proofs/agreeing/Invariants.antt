-- `agreeing` counts the words that agree. Assumes nothing.
use Prim.Native.Nat.{◌-◌, ◌+◌}
use mathlib.Core.Path.{◌≡◌}
use Rattle.nested.specs.Nested.{standing, agreed}
use Rattle.nested.proofs.agreeing.Given as goal

abbrev pub invariant-loop-i : goal.invariant-loop-i
invariant-loop-i l = agreed l.words l.out l.count l.at l.end ≡ l.i + standing l.words l.out l.at l.end l.i (l.count - l.i)
