-- The counters and the wanted cells, filter by filter. Assumes nothing.
use Prim.Native.Nat.{ℕ, ◌<◌}
use mathlib.Core.Path.{◌≡◌}
use lib.ListN.{get_or}
use Rattle.loop_laws.specs.Sweeps.{source}
use Rattle.run_fill.specs.Fills.{GoodCounter}
use Rattle.run_fill.proofs.bad_counters.Given as goal

abbrev pub invariant-loop-k : goal.invariant-loop-k
invariant-loop-k l = (l.source ≡ source l.size l.ps l.k) × ((j : ℕ) → j < l.k → GoodCounter (source l.size l.ps j) l.size l.w (get_or l.at j 0) (get_or l.wants j 0) (get_or l.ps j 0))
