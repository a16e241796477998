-- The loop's invariant: the first k places are filled.
use Rattle.geometry.specs.Parts.{Filled, place_by}
use Rattle.shape.proofs.places_of.Given as goal

abbrev pub invariant-loop-k : goal.invariant-loop-k
invariant-loop-k l =
    Filled 32 0 (place_by l.dims l.lows l.strides l.offsets) l.k l.at
