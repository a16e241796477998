use Prim.Native.Nat.{ℕ, ◌+◌, ◌≤◌, ◌<◌}
use mathlib.Core.Path.{◌≡◌, refl, sym, ap, ◌∙◌}
use native.Mathlib.Omega.{arith}
use lib.ListN.{length, drop, length-drop}
use borrow.Author.Rules.{rules}
use Rattle.model_sheet.specs.Lines.{line_of}
use Rattle.model_sheet.specs.Frames.{empty_frame, feeds, shown}
use Rattle.model_sheet.specs.Reading.{line_verdict, taken}
use Rattle.sheet_laws.proofs.LineLaws.{line_within}
use Rattle.sheet_laws.proofs.FixedMemory.{start_bounded, keeps_bounded}
use Rattle.sheet_laws.proofs.ReadingLaws.{read_from, read_to_end, last_unended, turned_back_lem, onward}
use Rattle.sheet_reader.proofs.StepLaws.{accepted_room, step_accepted, step_refused}
use Rattle.sheet_reader.proofs.read_lines.Goals as goal
use Rattle.sheet_reader.proofs.read_lines.Goals.{After-line-line, After-line_verdict-v}

less : {a b : ℕ} → a ≤ b → (a ≡ b → ⊥) → a < b
less h n = omega (arith, n)

-- A line ends within the sheet.
within : (c : After-line-line)
    → (c.loop-at.at + length c.line-line.result.now ≤ length c.args.sheet.now)
within c =
    let sheet = c.args.sheet.now in
    omega (arith, line_within (drop c.loop-at.at sheet), length-drop c.loop-at.at sheet, ap length c.line-line.ensures)

pub loop-at-init : goal.loop-at-init
loop-at-init c = (search rules, rw c.begin-r.ensures start_bounded, rw c.begin-r.ensures)

pub overflow_add-end : goal.overflow_add-end
overflow_add-end c = omega (arith, within c)

pub returns-then-end-sheet : goal.returns-then-end-sheet
returns-then-end-sheet c =
    last_unended _ _ _ c.loop-at.r c.loop-at.at c.loop-at-test.true (omega (arith, ap length c.line-line.ensures, c.if-end-sheet.true)) ∙ c.loop-at.invariant.2

-- The verdict is that of the line.
told : (c : After-line_verdict-v)
    → (line_verdict c.args.chained c.args.rows.now c.loop-at.r (shown (feeds empty_frame (line_of (drop c.loop-at.at c.args.sheet.now)))) ≡ c.line_verdict-v.result)
told c =
    ap (λ g. line_verdict c.args.chained c.args.rows.now c.loop-at.r (shown g)) (sym (c.frame-f.ensures ∙ ap (feeds empty_frame) c.line-line.ensures))
    ∙ sym c.line_verdict-v.ensures

pub returns-in-Err : goal.returns-in-Err
returns-in-Err c =
    turned_back_lem _ _ _ c.loop-at.r c.loop-at.at c.loop-at-test.true (omega (arith, ap length c.line-line.ensures, less (within (goal.at.returns-in-Err c).After-line-line) c.if-end-sheet.false))
    c.loop-at.invariant.1 _ (step_refused _ _ _ _ _ (told (goal.at.returns-in-Err c).After-line_verdict-v ∙ c.in-Err.is)) _ refl
    ∙ c.loop-at.invariant.2

pub accept_line-next-requires : goal.accept_line-next-requires
accept_line-next-requires c =
    accepted_room _ _ _ _ (sym c.line_verdict-v.ensures ∙ c.in-Ok.is)

pub overflow_add-at : goal.overflow_add-at
overflow_add-at c =
    omega (arith, less (within (goal.at.overflow_add-at c).After-line-line) c.if-end-sheet.false, c.well_formed)

pub loop-at-smaller : goal.loop-at-smaller
loop-at-smaller c =
    omega (arith, less (within (goal.at.loop-at-smaller c).After-line-line) c.if-end-sheet.false)

pub loop-at-preserved : goal.loop-at-preserved
loop-at-preserved c =
    let short : c.loop-at.at + length c.line-line.result.now < length c.args.sheet.now = omega (arith, within (goal.at.loop-at-preserved c).After-line-line) in
    let first = c.frame-f.ensures ∙ ap (feeds empty_frame) c.line-line.ensures in
    let stepped = step_accepted c.args.chained c.args.rows.now c.loop-at.r _ c.accept_line-next.result (told (goal.at.loop-at-preserved c).After-line_verdict-v ∙ c.in-Ok.is) (c.accept_line-next.ensures ∙ ap (λ g. taken c.loop-at.r g.first) first) in (
      omega (arith, short),
      rw (ap (λ s. s.reading) stepped) (keeps_bounded _ _ c.loop-at.r _ c.loop-at.invariant.1),
      ap (λ n. read_from c.args.chained c.args.rows.now c.args.sheet.now c.accept_line-next.result (c.loop-at.at + n + 1)) (ap length c.line-line.ensures)
          ∙ onward _ _ _ c.loop-at.r c.loop-at.at c.loop-at-test.true (omega (arith, short, ap length c.line-line.ensures)) c.loop-at.invariant.1 _ stepped refl
          ∙ c.loop-at.invariant.2,
    )

pub returns : goal.returns
returns c =
    read_to_end _ _ _ c.loop-at.r c.loop-at.at c.loop-at-test.false ∙ c.loop-at.invariant.2
