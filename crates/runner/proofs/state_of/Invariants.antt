use mathlib.Core.Path.{◌≡◌}
use lib.ListN.{length}
use Rattle.runner.proofs.PrepareCounters.{put_back}
use Rattle.runner.proofs.state_of.Given as goal

abbrev pub invariant-loop-k : goal.invariant-loop-k
invariant-loop-k l =
    (l.to ≡ put_back l.k l.passed l.initial.to) × (length l.initial.to ≡ 32)
