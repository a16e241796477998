use Rattle.geometry.specs.Parts.{number_at, Falls}
use Rattle.shape.proofs.falls.Given as goal

abbrev pub invariant-loop-k : goal.invariant-loop-k
invariant-loop-k l = Falls (number_at l.at) l.k
