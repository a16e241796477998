use Prim.Native.Nat.{◌+◌}
use native.Mathlib.Omega.{arith}
use Rattle.rows.proofs.LentLaws.{start_past, start_lent, end_past, end_lent}
use Rattle.rows.proofs.common.row_below.Goals as goal

pub returns-then-count-i : goal.returns-then-count-i
returns-then-count-i c =
    (omega (arith, start_past c.args.count c.args.rows.now (c.args.down + c.args.u) (omega arith)), omega (arith, end_past c.args.count c.args.rows.now (c.args.down + c.args.u) (omega arith)))

pub returns : goal.returns
returns c =
    let i = c.saturating_add-i.result in (
      omega (arith, start_lent c.args.count c.args.rows.now i (c.args.down + c.args.u) (omega arith) (omega arith)),
      omega (arith, end_lent c.args.count c.args.rows.now i (c.args.down + c.args.u) (omega arith) (omega arith)),
    )
