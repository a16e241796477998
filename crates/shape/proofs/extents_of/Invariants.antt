-- The loop's invariant: the first d places are filled.
use Rattle.model.specs.Geometry.{extent}
use Rattle.geometry.specs.Parts.{number_at, entries_in, Filled}
use Rattle.shape.proofs.extents_of.Given as goal

abbrev pub invariant-loop-d : goal.invariant-loop-d
invariant-loop-d l =
    Filled 4 0 (λ i. extent (number_at l.sizes i) (entries_in l.count l.offsets i)) l.d l.extents
