use Prim.Native.Nat.{◌+◌, ◌≤◌}
use mathlib.Core.Bool.{false}
use mathlib.Core.Path.{◌≡◌, refl, sym, ◌∙◌, ap₂}
use native.Mathlib.Omega.{arith}
use Rattle.model.specs.Grounds.{cells_above}
use Rattle.model.specs.Values.{rows_of}
use Rattle.model.specs.Judging.{bad_rows}
use Rattle.geometry.proofs.FillLaws.{filled_none, filled_up_to}
use Rattle.rows.proofs.CommonLaws.{small_rows}
use Rattle.row_courses.proofs.TableLaws.{above_next, above_bad, above_good, few_count, filled_first, filled_at}
use Rattle.row_courses.proofs.cells_above.Goals as goal
use Rattle.row_courses.proofs.cells_above.Goals.{After-length_of-cells, Else-bad_rows}

pub returns-then-bad_rows : goal.returns-then-bad_rows
returns-then-bad_rows c = filled_up_to 513 0 (cells_above (rows_of c.args.count c.args.rows.now)) 0 _ _ (above_bad c.args.count c.args.rows.now (sym c.bad_rows.ensures ∙ c.if-bad_rows.true)) (filled_none 513 0 (cells_above (rows_of c.args.count c.args.rows.now)))

good : (e : Else-bad_rows) → let a = e.args in bad_rows (rows_of a.count a.rows.now) ≡ false
good e = sym e.bad_rows.ensures ∙ e.if-bad_rows.false

short : (c : After-length_of-cells) → c.length_of-cells.result ≤ 1024
short c =
    omega (arith, c.length_of-cells.ensures, (small_rows (rows_of c.args.count c.args.rows.now) (sym c.bad_rows.ensures ∙ c.if-bad_rows.false) c.loop-i.i).few)

pub loop-i-init : goal.loop-i-init
unfolding cells_above
loop-i-init c =
    (few_count c.args.count c.args.rows.now (good c), omega arith, refl, filled_first 513 (cells_above (rows_of c.args.count c.args.rows.now)) refl)

pub overflow_add-cells : goal.overflow_add-cells
overflow_add-cells c = omega (arith, short c)

pub loop-i-preserved : goal.loop-i-preserved
loop-i-preserved c =
    let next = ap₂ ◌+◌ c.loop-i.invariant.2 c.length_of-cells.ensures ∙ above_next (rows_of c.args.count c.args.rows.now) c.loop-i.i in
    (c.loop-i.invariant.0, omega (arith, short (goal.at.loop-i-preserved c).After-length_of-cells), next, filled_at 513 (cells_above (rows_of c.args.count c.args.rows.now)) (c.loop-i.i + 1) _ c.loop-i.to _ refl (omega arith) next c.loop-i.invariant.3)

pub returns : goal.returns
returns c =
    filled_up_to 513 0 (cells_above (rows_of c.args.count c.args.rows.now)) (c.loop-i.i + 1) _ c.loop-i.to (omega arith ∙ above_good c.args.count c.args.rows.now (good (goal.at.returns c).Else-bad_rows)) c.loop-i.invariant.3
