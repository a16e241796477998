use Prim.Native.Nat.{◌+◌, ◌*◌, ◌≤◌}
use mathlib.Core.Path.{◌≡◌}
use Rattle.model.specs.Values.{rows_of}
use Rattle.geometry.specs.Parts.{Filled}
use Rattle.rows.specs.Courses.{row_length}
use Rattle.row_courses.specs.CourseTables.{lengths_above}
use Rattle.row_courses.proofs.iterations_above.Given as goal

abbrev pub invariant-loop-v : goal.invariant-loop-v
invariant-loop-v l = (l.n ≤ 512) × (l.iterations ≤ 1024 * l.v) × (l.iterations ≡ lengths_above (row_length (rows_of l.count l.rows) l.course) l.v) × Filled 513 0 (lengths_above (row_length (rows_of l.count l.rows) l.course)) (l.v + 1) l.to
