-- No more differ than were shown. Assumes nothing.
use Prim.Native.Nat.{◌≤◌}
use Rattle.sample.proofs.main.Given as goal

abbrev pub invariant-loop-i : goal.invariant-loop-i
invariant-loop-i l = l.differ ≤ l.i
