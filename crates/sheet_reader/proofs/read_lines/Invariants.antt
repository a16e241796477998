-- The loop's invariant: from `at` on the sheet gives, with what was read, what it gives from its start.
use Prim.Native.Nat.{◌-◌, ◌≤◌}
use mathlib.Core.Path.{◌≡◌}
use lib.ListN.{length}
use Rattle.model_sheet.specs.Reading.{start}
use Rattle.sheet_laws.proofs.FixedMemory.{Bounded}
use Rattle.sheet_laws.proofs.ReadingLaws.{read_from}
use Rattle.sheet_reader.proofs.read_lines.Given as goal

abbrev pub invariant-loop-at : goal.invariant-loop-at
invariant-loop-at l = (l.at ≤ length l.sheet) × Bounded l.r × (read_from l.chained l.rows l.sheet l.r l.at ≡ read_from l.chained l.rows l.sheet start 0)

abbrev pub decreases-loop-at : goal.decreases-loop-at
decreases-loop-at l = length l.sheet - l.at
