use native.Mathlib.Omega.{arith}
use Rattle.runner.proofs.ClocksLaws.{counts_small, ends_stretched}
use Rattle.runner.proofs.RowTableLaws.{iterations_few}
use Rattle.runner.proofs.clocks_on_rows.Goals as goal

pub ended-requires : goal.ended-requires
ended-requires c =
    let (t, R) = c.requires in
    counts_small t (iterations_few R.tables) (c.row_clocks-s.ensures t R) (omega arith)

pub returns : goal.returns
returns c = λ t R. ends_stretched t (iterations_few R.tables) (c.row_clocks-s.ensures t R) c.ended.ensures
