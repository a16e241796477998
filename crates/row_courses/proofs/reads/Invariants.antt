use Prim.Native.Nat.{◌≤◌, ◌<◌}
use Rattle.model.specs.Values.{rows_of}
use Rattle.geometry.specs.Parts.{Filled}
use Rattle.row_courses.proofs.TableLaws.{read_by}
use Rattle.row_courses.proofs.reads.Given as goal

abbrev pub invariant-loop-k : goal.invariant-loop-k
invariant-loop-k l = (l.n ≤ 32) × (l.u < 8589934592) × (l.column ≤ 8192) × Filled 32 0 (read_by (rows_of l.count l.rows) l.above l.course.down l.course.on l.u l.column) l.k l.to
