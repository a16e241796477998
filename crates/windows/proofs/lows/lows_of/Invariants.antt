-- The loop's invariant: the first d places are filled.
use lib.IntN.{pos}
use Rattle.geometry.specs.Parts.{Filled}
use Rattle.windows.specs.Lows.{low_in}
use Rattle.windows.proofs.lows.lows_of.Given as goal

abbrev pub invariant-loop-d : goal.invariant-loop-d
invariant-loop-d l = Filled 4 (pos 0) (low_in l.count l.offsets) l.d l.lows
