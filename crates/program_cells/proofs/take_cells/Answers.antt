use Prim.Native.Nat.{ℕ}
use mathlib.Core.Path.{◌≡◌, refl, sym, ap, ◌∙◌}
use native.Mathlib.Omega.{arith}
use lib.ListN.{length, drop, length-drop}
use Rattle.sheet_laws.proofs.LineLaws.{line_within}
use Rattle.program_cells.specs.Cells.{took, cells_taken}
use Rattle.program_cells.proofs.CellLaws.{mid_line}
use Rattle.program_cells.proofs.RoomLaws.{left_of, left_all_lem, no_room, room_open, room_refused, room_accepted, all_refused}
use Rattle.program_cells.proofs.take_cells.Goals as goal
use Rattle.program_cells.proofs.take_cells.Goals.{At-loop-count}

pub returns-in_default : goal.returns-in_default
returns-in_default c = all_refused _ _ _ _ _ c.in_default.is

-- What is left at the loop's test is all.
all : (l : At-loop-count)
    → (let a = l.args in
    left_of l.loop-count.frame l.loop-count.begun a.block.now l.loop-count.p l.loop-count.count l.loop-count.cells ≡ cells_taken a.l a.block.now a.at a.cells.now)
all l = l.loop-count.invariant ∙ left_all_lem _ _ _ _ l.in-Ok.is

pub loop-count-init : goal.loop-count-init
loop-count-init c = refl

pub overflow_add-end : goal.overflow_add-end
overflow_add-end c =
    let block = c.args.block.now in
    record { fits = omega (arith, line_within (drop c.loop-count.p block), length-drop c.loop-count.p block, ap length c.line-piece.ensures) }

pub returns-then-block-end : goal.returns-then-block-end
returns-then-block-end c =
    room_open _ _ _ _ _ _ (omega arith) _ c.line-piece.ensures _ c.more-open.ensures c.if-block-end.true _ c.has_begun.ensures ∙ all (goal.at.returns-then-block-end c).At-loop-count

pub returns-in-Err : goal.returns-in-Err
returns-in-Err c =
    rw c.new_line.ensures
    (room_refused _ _ _ _ _ _ (omega arith) _ c.line-piece.ensures _ c.more-open.ensures c.if-block-end.false
    _ c.cell_verdict.ensures _ c.in-Err.is _ refl ∙ all (goal.at.returns-in-Err c).At-loop-count)

pub loop-count-preserved : goal.loop-count-preserved
loop-count-preserved c =
    room_accepted _ _ _ _ _ _ (omega arith) _ c.line-piece.ensures _ c.more-open.ensures c.if-block-end.false
    _ c.cell_verdict.ensures c.in_default-cell_verdict.is _ c.empty_frame-frame.ensures _ c.word_in.ensures
    ∙ c.loop-count.invariant

pub returns : goal.returns
returns c =
    let l = c.loop-count in
    let full : length l.cells ≡ l.count = omega arith in
    ap (λ (n : ℕ). took (record { line = mid_line l.frame l.begun; at = l.p; count = n }) l.cells) full
    ∙ no_room _ _ _ _ _ _ (sym full)
    ∙ all (goal.at.returns c).At-loop-count
