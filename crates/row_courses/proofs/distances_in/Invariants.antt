use Prim.Native.Nat.{◌-◌}
use Rattle.model.specs.Lists.{greatest}
use Rattle.model.specs.Values.{rows_of}
use Rattle.geometry.specs.Parts.{part, Filled}
use Rattle.rows.specs.Courses.{looked}
use Rattle.row_courses.specs.CourseTables.{distance_at}
use Rattle.row_courses.proofs.distances_in.Given as goal

abbrev pub invariant-loop-v : goal.invariant-loop-v
invariant-loop-v l = Filled 31 0 (λ k. greatest (part (distance_at (rows_of l.count l.rows) l.above l.course k) l.v l.course.height)) (looked l.course - 1) l.r
