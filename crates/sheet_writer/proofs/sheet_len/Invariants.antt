-- The loop's invariant: the total so far and the lines that remain make the sheet.
use Prim.Native.Nat.{ℕ, ◌+◌, ◌-◌, ◌*◌, ◌≤◌}
use mathlib.Core.List.{List}
use mathlib.Core.Path.{◌≡◌}
use lib.ListN.{length}
use Rattle.model_sheet.specs.Frames.{kept}
use Rattle.sheet_laws.specs.Sections.{lines_from}
use Rattle.sheet_writer.proofs.sheet_len.Given as goal

abbrev pub invariant-loop-m : goal.invariant-loop-m
invariant-loop-m l =
    (l.total ≤ 2 * 2051 + 1 + (2 * kept + 1) * l.m) × ((rows : List ℕ) → l.total + length (lines_from l.c rows (1 + l.m) (l.lines - l.m)) ≡ l.initial.total + length (lines_from l.c rows 1 l.lines))
