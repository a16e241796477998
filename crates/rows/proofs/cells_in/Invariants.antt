-- The loop's invariant: `cells`, and what the rows from i on add, make the sum.
use Prim.Native.Nat.{ℕ, ◌+◌, ◌*◌, ◌≤◌, min}
use mathlib.Core.Path.{◌≡◌}
use mathlib.Core.List.{List}
use Rattle.model.specs.Lists.{tabulate, sum}
use Rattle.geometry.specs.Parts.{part, number_at}
use Rattle.rows.proofs.cells_in.Given as goal

-- The cells of a row.
abbrev pub cells_of : List ℕ → (i : ℕ) → ℕ
cells_of rows i = min (number_at rows (2 * i + 1)) 1024

abbrev pub invariant-loop-i : goal.invariant-loop-i
invariant-loop-i l =
    (l.cells ≤ 1024 * l.i) × (l.cells + sum (part (cells_of l.rows) l.i l.count) ≡ sum (tabulate l.count (cells_of l.rows)))
