-- The loop's invariant: the entries from d on decide.
use Prim.Native.Nat.{ℕ}
use mathlib.Core.List.{List}
use mathlib.Core.Path.{◌≡◌}
use lib.IntN.{ℤ, pos}
use lib.ListN.{get_or}
use Rattle.model.specs.Vectors.{equal}
use Rattle.geometry.specs.Parts.{part}
use Rattle.windows.specs.Offsets.{front}
use Rattle.windows.proofs.same_offset.Given as goal

abbrev pub at : List ℤ → ℕ → ℤ
at o d = get_or o d (pos 0)

abbrev pub invariant-loop-d : goal.invariant-loop-d
invariant-loop-d l =
    equal (part (at l.a) l.d l.dims) (part (at l.b) l.d l.dims) ≡ equal (front l.dims l.a) (front l.dims l.b)
