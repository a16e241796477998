use Prim.Native.Nat.{◌+◌, ◌*◌, ◌≤◌}
use mathlib.Core.Path.{◌≡◌}
use Rattle.model.specs.Grounds.{cells_above}
use Rattle.model.specs.Values.{rows_of}
use Rattle.geometry.specs.Parts.{Filled}
use Rattle.row_courses.proofs.cells_above.Given as goal

abbrev pub invariant-loop-i : goal.invariant-loop-i
invariant-loop-i l = (l.count ≤ 512) × (l.cells ≤ 1024 * l.i) × (l.cells ≡ cells_above (rows_of l.count l.rows) l.i) × Filled 513 0 (cells_above (rows_of l.count l.rows)) (l.i + 1) l.to
