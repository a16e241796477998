use mathlib.Core.Path.{◌∙◌, sym, ap}
use native.Mathlib.Omega.{arith}
use Rattle.model.specs.Grounds.{Row}
use Rattle.rows.proofs.LentLaws.{row_past, row_lent}
use Rattle.rows.proofs.length_of.Goals as goal

pub returns-then-count-i : goal.returns-then-count-i
returns-then-count-i c = omega (arith, ap (λ (r : Row). r.length) (row_past c.args.count c.args.rows.now c.args.i c.if-count-i.true))

pub returns : goal.returns
returns c =
    c.number_at.ensures ∙ sym (ap (λ (r : Row). r.length) (row_lent c.args.count c.args.rows.now c.args.i c.if-count-i.false))
