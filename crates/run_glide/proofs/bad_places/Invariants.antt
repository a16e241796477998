-- The places of the FIFOs, ring by ring. Assumes nothing.
use Prim.Native.Nat.{ℕ, ◌<◌}
use lib.ListN.{get_or}
use Rattle.run_glide.specs.Glides.{GoodPlaces}
use Rattle.run_glide.proofs.bad_places.Given as goal

abbrev pub invariant-loop-k : goal.invariant-loop-k
invariant-loop-k l = (j : ℕ) → j < l.k → GoodPlaces (get_or l.bases j 0) (get_or l.tops j 0) (get_or l.puts j 0) (get_or l.gets j 0) l.room
