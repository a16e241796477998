use Prim.Native.Nat.{◌-◌, ◌≤◌}
use Rattle.row_courses.proofs.TableLaws.{Search}
use Rattle.row_courses.proofs.row_of.Given as goal

abbrev pub invariant-loop-from : goal.invariant-loop-from
invariant-loop-from l = (l.from ≤ l.to) × (l.to ≤ 512) × Search l.above l.height l.j l.from l.to

abbrev pub decreases-loop-from : goal.decreases-loop-from
decreases-loop-from l = l.to - l.from
