use Rattle.std.proofs.Common.{◌≡◌, ◌-◌}
use Rattle.case_runs.specs.CaseRuns.{course, called_on}
use Rattle.case_runs.proofs.more.Given as goal

abbrev pub invariant-loop : goal.invariant-loop
invariant-loop l =
    called_on (100000 - l.counter) l.chain l.rows l.pieces l.width l.cells (course l.r l.store l.out) ≡ called_on 100000 l.chain l.rows l.pieces l.width l.cells (course l.initial.r l.initial.store l.initial.out)
