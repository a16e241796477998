-- The places of the FIFOs, one after the other. Assumes nothing.
use Prim.Native.Nat.{ℕ, ◌+◌, ◌<◌}
use mathlib.Core.Path.{◌≡◌}
use lib.ListN.{get_or}
use Rattle.model_run.specs.Store.{first_place}
use Rattle.loop_laws.specs.Passes.{of}
use Rattle.run_fill.specs.Fills.{GoodRing}
use Rattle.run_fill.proofs.bad_rings.Given as goal

abbrev pub invariant-loop-k : goal.invariant-loop-k
invariant-loop-k l = (l.from ≡ first_place (of l.caps) l.k)
    × ((j : ℕ) → j < l.k → GoodRing (first_place (of l.caps) j) l.room (get_or l.caps j 0) (get_or l.bases j 0) (get_or l.tops j 0) (get_or l.ps j 0) (get_or l.ps (j + 1) 0))
