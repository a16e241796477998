-- The loop's invariant: with what arrived, the block from `at` on gives what all of it gives.
use Prim.Native.Nat.{◌-◌}
use mathlib.Core.Path.{◌≡◌}
use lib.ListN.{length, drop}
use Rattle.model_sheet.specs.Arriving.{arrive}
use Rattle.program_intake.specs.Taken.{beside}
use Rattle.program_intake.proofs.take_block.Given as goal

abbrev pub invariant-loop-at : goal.invariant-loop-at
invariant-loop-at l =
    arrive l.chained (beside l.arriving l.rows) (drop l.at l.block) ≡ arrive l.chained (beside l.initial.arriving l.initial.rows) l.block

abbrev pub decreases-loop-at : goal.decreases-loop-at
decreases-loop-at l = length l.block - l.at
