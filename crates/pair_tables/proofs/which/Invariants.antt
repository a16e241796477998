-- The loop's invariant: the references from k on decide.
use Prim.Native.Nat.{◌+◌}
use mathlib.Core.Path.{◌≡◌}
use Rattle.model.specs.Lists.{tabulate}
use Rattle.model.specs.Steps.{which_of}
use Rattle.geometry.specs.Parts.{part, offset_at}
use Rattle.windows.specs.Offsets.{front}
use Rattle.pair_tables.proofs.which.Given as goal

abbrev pub invariant-loop-k : goal.invariant-loop-k
invariant-loop-k l =
    l.k + which_of (part (offset_at l.dims l.window.offsets) l.k l.window.count) (front l.dims l.o) ≡ which_of (tabulate l.window.count (offset_at l.dims l.window.offsets)) (front l.dims l.o)
