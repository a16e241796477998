-- The rows, number by number and dimension by dimension. Assumes nothing.
use Prim.Native.Nat.{ℕ, ◌≤◌, ◌<◌}
use lib.ListN.{get_or}
use Rattle.run_glide.proofs.bad_rows.Given as goal

abbrev pub invariant-loop-d : goal.invariant-loop-d
invariant-loop-d l = (i : ℕ) → i < l.d → (0 < get_or l.spans i 0) × (get_or l.strides i 0 ≤ 1048576)
