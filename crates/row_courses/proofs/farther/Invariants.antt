use Prim.Native.Nat.{◌+◌, ◌-◌, max}
use Rattle.geometry.specs.Parts.{number_at, Filled}
use Rattle.row_courses.proofs.farther.Given as goal

abbrev pub invariant-loop-k : goal.invariant-loop-k
invariant-loop-k l = Filled 31 0 (λ i. max (number_at l.at i - number_at l.at (i + 1)) (number_at l.r i)) l.k l.to
