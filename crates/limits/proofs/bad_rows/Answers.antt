use Prim.Native.Nat.{ℕ}
use mathlib.Core.Path.{◌≡◌, sym, ap₂, ◌∙◌}
use native.Mathlib.Omega.{arith}
use Rattle.model.specs.Judging.{bad_row}
use Rattle.limits.specs.Lent.{row_of}
use Rattle.limits.proofs.RowLaws.{count_bad, by_rows_lem, none_left, bad_here, onward}
use Rattle.limits.proofs.bad_rows.Goals as goal
use Rattle.limits.proofs.bad_rows.Goals.{After-bad_row}

pub returns-then-bad_row_count : goal.returns-then-bad_row_count
returns-then-bad_row_count c = count_bad _ _ (sym c.bad_row_count.ensures ∙ c.if-bad_row_count.true)

pub loop-i-init : goal.loop-i-init
loop-i-init c = by_rows_lem _ _ (sym c.bad_row_count.ensures ∙ c.if-bad_row_count.false)

-- The row that was looked at.
row_is : (c : After-bad_row) →
    c.bad_row.result ≡ bad_row (row_of c.args.rows.now c.loop-i.i)
row_is c =
    c.bad_row.ensures
    ∙ ap₂ (λ (s l : ℕ). bad_row (record { start = s; length = l })) c.number_at-start.ensures c.number_at-length.ensures

pub returns-then-bad_row : goal.returns-then-bad_row
returns-then-bad_row c =
    bad_here _ _ c.loop-i.i (omega arith) (row_is (goal.at.returns-then-bad_row c).After-bad_row) c.if-bad_row.true ∙ c.loop-i.invariant

pub loop-i-preserved : goal.loop-i-preserved
loop-i-preserved c =
    onward _ _ c.loop-i.i (omega arith) (row_is (goal.at.loop-i-preserved c).After-bad_row) c.if-bad_row.false ∙ c.loop-i.invariant

pub returns : goal.returns
returns c = none_left _ _ c.loop-i.i (omega arith) ∙ c.loop-i.invariant
