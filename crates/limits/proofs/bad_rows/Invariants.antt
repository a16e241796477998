-- The loop's invariant: the rows from i on decide.
use mathlib.Core.Path.{◌≡◌}
use Rattle.model.specs.Lists.{any}
use Rattle.model.specs.Values.{rows_of}
use Rattle.model.specs.Judging.{bad_row, bad_rows}
use Rattle.limits.proofs.RowLaws.{rows_from}
use Rattle.limits.proofs.bad_rows.Given as goal

abbrev pub invariant-loop-i : goal.invariant-loop-i
invariant-loop-i l = any bad_row (rows_from l.count l.rows l.i) ≡ bad_rows (rows_of l.count l.rows)
