use mathlib.Core.Path.{◌≡◌}
use lib.ListN.{take}
use lib.Seq.{slice}
use Rattle.model_run.specs.Clock.{Layout}
use Rattle.model_run.specs.Running.{bad_filters, bad_state}
use Rattle.run_prepare.specs.Prepared.{Laid}
use Rattle.run_prepare.proofs.bad_state.Given as goal

abbrev pub invariant-loop-k : goal.invariant-loop-k
invariant-loop-k l =
    ((L : Layout) → Laid L l.n l.cells l.iterations l.fired l.caps l.wants l.last
    → bad_state L (record { fired = l.fired; passed = take l.n l.passed }) ≡ bad_filters L l.fired l.k (slice l.k l.n l.passed))
