-- The loop's invariant: with the numbers from i on and the LF laid from `at` on, the output is what it is with all of them laid behind the row count.
use Prim.Native.Nat.{◌+◌, ◌*◌}
use mathlib.Core.Path.{◌≡◌}
use lib.Seq.{sets}
use Rattle.sheet_writer.proofs.RowsLaws.{numbers_from}
use Rattle.sheet_writer.proofs.skewed.put_rows.Given as goal

abbrev pub invariant-loop-i : goal.invariant-loop-i
invariant-loop-i l =
    (l.at ≡ 6 + 4 * l.i) × (sets l.out l.at (numbers_from (2 * l.count) l.i l.rows) ≡ sets l.initial.out 6 (numbers_from (2 * l.count) 0 l.rows))
