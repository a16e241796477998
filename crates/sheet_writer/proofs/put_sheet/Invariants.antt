-- The loop's invariant: with the lines that remain laid from `at` on, the output is what it is with all behind the grid's laid behind it.
use Prim.Native.Nat.{◌+◌, ◌-◌}
use mathlib.Core.Path.{◌≡◌}
use lib.ListN.{length}
use lib.Seq.{sets}
use Rattle.sheet_laws.specs.Sections.{lines_from}
use Rattle.sheet_writer.proofs.put_sheet.Given as goal

abbrev pub invariant-loop-m : goal.invariant-loop-m
invariant-loop-m l =
    (l.at + length (lines_from l.c l.rows (1 + l.m) (l.lines - l.m)) ≡ l.initial.at + length (lines_from l.c l.rows 1 l.lines))
    × (sets l.out l.at (lines_from l.c l.rows (1 + l.m) (l.lines - l.m)) ≡ sets l.initial.out l.initial.at (lines_from l.c l.rows 1 l.lines))
