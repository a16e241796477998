use mathlib.Core.Bool.{true, false}
use mathlib.Core.Path.{sym, ◌∙◌, ap, ap₂}
use lib.IntN.{ℤ, nat_abs, ◌-ℤ◌}
use Rattle.geometry.proofs.EntryLaws.{entry_back, order_bits, above_none, above_difference}
use Rattle.grid_laws.proofs.IntegerLaws.{not_lt_z}
use Rattle.windows.proofs.lows.height.Goals as goal

pub returns-then-x-low : goal.returns-then-x-low
returns-then-x-low c =
    sym (above_none c.args.x c.args.low (order_bits c.args.x c.args.low true c.ranges.x.sfits c.ranges.low.sfits c.if-x-low.true))

pub returns : goal.returns
returns c =
    let x = c.args.x in
    let low = c.args.low in
    c.abs_diff.ensures ∙ ap₂ (λ (y z : ℤ). nat_abs (y -ℤ z)) (entry_back x c.ranges.x.sfits) (entry_back low c.ranges.low.sfits)
    ∙ ap nat_abs (above_difference x low (not_lt_z x low (order_bits x low false c.ranges.x.sfits c.ranges.low.sfits c.if-x-low.false)))
