-- The loop's invariant: the references from j on decide.
use mathlib.Core.Path.{◌≡◌}
use Rattle.model.specs.Pairs.{member}
use Rattle.windows.specs.Offsets.{front}
use Rattle.pair_windows.specs.Unions.{from_on}
use Rattle.pair_windows.proofs.occurs.Given as goal

abbrev pub invariant-loop-j : goal.invariant-loop-j
invariant-loop-j l = member (from_on l.dims l.window l.j) (front l.dims l.o) ≡ member (from_on l.dims l.window l.from) (front l.dims l.o)
