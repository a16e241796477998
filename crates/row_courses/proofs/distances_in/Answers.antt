use Prim.Native.Nat.{◌-◌, max}
use mathlib.Core.Path.{refl, sym, ◌∙◌, ap}
use native.Mathlib.Omega.{arith}
use Rattle.model.specs.Lists.{tabulate, greatest}
use Rattle.model.specs.Values.{rows_of}
use Rattle.geometry.specs.Parts.{part}
use Rattle.rows.specs.Courses.{looked}
use Rattle.rows.proofs.BackLaws.{greatest_none, greatest_back, greatest_all}
use Rattle.row_courses.specs.CourseTables.{distance_at}
use Rattle.row_courses.proofs.DistanceLaws.{filled_same, filled_zeros}
use Rattle.row_courses.proofs.distances_in.Goals as goal

pub loop-v-init : goal.loop-v-init
loop-v-init c =
    filled_zeros 31 (λ k. greatest (part (distance_at (rows_of c.args.count c.args.rows.now) c.args.above.now c.args.course k) c.args.course.height c.args.course.height)) (looked c.args.course - 1) (λ k. sym (greatest_none (distance_at (rows_of c.args.count c.args.rows.now) c.args.above.now c.args.course k) c.args.course.height))

pub loop-v-preserved : goal.loop-v-preserved
loop-v-preserved c =
    let f = c.loop-v.invariant in
    filled_same 31 _ (λ k. greatest (part (distance_at (rows_of c.args.count c.args.rows.now) c.args.above.now c.args.course k) (c.loop-v.v - 1) c.args.course.height)) _ _ _ refl
    (λ k h. ap (max (distance_at (rows_of c.args.count c.args.rows.now) c.args.above.now c.args.course k (c.loop-v.v - 1))) (f.done k h) ∙ greatest_back (distance_at (rows_of c.args.count c.args.rows.now) c.args.above.now c.args.course k) c.loop-v.v c.args.course.height (omega arith) (omega arith))
    c.widened-r.ensures

pub returns : goal.returns
returns c =
    filled_same 31 _ (λ k. greatest (tabulate c.args.course.height (distance_at (rows_of c.args.count c.args.rows.now) c.args.above.now c.args.course k))) _ _ _ refl (λ k h. greatest_all (distance_at (rows_of c.args.count c.args.rows.now) c.args.above.now c.args.course k) c.loop-v.v c.args.course.height (omega arith)) c.loop-v.invariant
