-- Three loops: what is left of each is what it all comes to. Assumes nothing.
use Rattle.std.proofs.Common.{◌≡◌, ◌-◌}
use Rattle.case_runs.specs.Comparing.{along, place, line, plane}
use Rattle.case_runs.proofs.CompareLaws.{going}
use Rattle.case_runs.proofs.compare.compare.Given as goal

abbrev pub invariant-loop-x : goal.invariant-loop-x
invariant-loop-x l =
    along (place l.l l.kernel l.chain l.rows l.pieces l.width l.window l.cells l.field l.inside l.z l.y) (l.x-end - l.x) l.x (going l.run l.store l.out l.at l.seen)
    ≡ along (place l.l l.kernel l.chain l.rows l.pieces l.width l.window l.cells l.field l.inside l.z l.y) (l.x-end - l.initial.x) l.initial.x (going l.initial.run l.initial.store l.initial.out l.initial.at l.initial.seen)

abbrev pub invariant-loop-y : goal.invariant-loop-y
invariant-loop-y l =
    along (line l.l l.kernel l.chain l.rows l.pieces l.width l.window l.cells l.field l.inside l.z) (l.y-end - l.y) l.y (going l.run l.store l.out l.at l.seen)
    ≡ along (line l.l l.kernel l.chain l.rows l.pieces l.width l.window l.cells l.field l.inside l.z) (l.y-end - l.initial.y) l.initial.y (going l.initial.run l.initial.store l.initial.out l.initial.at l.initial.seen)

abbrev pub invariant-loop-z : goal.invariant-loop-z
invariant-loop-z l =
    along (plane l.l l.kernel l.chain l.rows l.pieces l.width l.window l.cells l.field l.inside) (l.z-end - l.z) l.z (going l.run l.store l.out l.at l.seen)
    ≡ along (plane l.l l.kernel l.chain l.rows l.pieces l.width l.window l.cells l.field l.inside) (l.z-end - l.initial.z) l.initial.z (going l.initial.run l.initial.store l.initial.out l.initial.at l.initial.seen)
