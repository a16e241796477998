-- The loop's invariant: in the first d dimensions the box lies among the iterations, and their places are filled.
use Prim.Native.Nat.{ℕ, ◌+◌, ◌-◌, ◌<◌}
use Rattle.geometry.specs.Parts.{Filled}
use Rattle.shape.specs.Boxing.{first_at, last_at, LiesIn}
use Rattle.shape.proofs.boxed.place_box.Given as goal

abbrev pub invariant-loop-d : goal.invariant-loop-d
invariant-loop-d l =
    ((i : ℕ) → i < l.d → LiesIn l.lowest l.highest l.lows l.extents i)
    × Filled 4 0 (first_at l.lowest l.highest l.lows l.extents) l.d l.firsts
    × Filled 4 0 (λ i. last_at l.lowest l.highest l.lows l.extents i - first_at l.lowest l.highest l.lows l.extents i + 1) l.d l.widths
