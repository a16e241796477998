use Rattle.std.proofs.Common.{◌≡◌, ◌+◌, ◌%◌, ◌^◌, cond, eqb, sym, refl, ◌∙◌, arith}
use Rattle.case_runs.specs.CaseRuns.{course, called_on}
use Rattle.case_runs.proofs.CompareLaws.{going, ended, course_is, by_equal, by_other, along_on, skipped, differs, agrees, line_on, plane_on, all_gone, all_stop, answered}
use Rattle.case_runs.proofs.compare.compare.Goals as goal
use Rattle.case_runs.proofs.compare.compare.Goals.{Joined-at-run, then-at-run, else-at-run}

-- The calls that were made,
made : (c : Joined-at-run) → course c.if-at-run.run c.if-at-run.store c.if-at-run.out
    ≡ cond (eqb c.loop-x.at c.loop-x.run.words) (called_on 100000 c.args.chain c.args.rows.now c.args.pieces c.width-width.result c.args.cells.now (course c.loop-x.run c.loop-x.store c.loop-x.out))
    (course c.loop-x.run c.loop-x.store c.loop-x.out)
made c =
    elim c.if-at-run.branch [
      | then-at-run w ↦ by_equal _ _ _ _ _ w.if-at-run.true (course_is _ _ _ _ _ _ w.run-is w.store-is w.out-is ∙ w.more-run.ensures)
      | else-at-run w ↦ by_other _ _ _ _ _ w.if-at-run.false (course_is _ _ _ _ _ _ w.run-is w.store-is w.out-is)
    ]

-- and where the next word stands.
stands : (c : Joined-at-run) → c.if-at-run.at ≡ cond (eqb c.loop-x.at c.loop-x.run.words) 0 c.loop-x.at
stands c =
    elim c.if-at-run.branch [
      | then-at-run w ↦ by_equal _ _ _ _ _ w.if-at-run.true w.at-is
      | else-at-run w ↦ by_other _ _ _ _ _ w.if-at-run.false w.at-is
    ]

pub loop-z-init : goal.loop-z-init
loop-z-init c = refl

pub loop-y-init : goal.loop-y-init
loop-y-init c = refl

pub loop-x-init : goal.loop-x-init
loop-x-init c = refl

pub loop-x-preserved-then-not-is_iteration : goal.loop-x-preserved-then-not-is_iteration
loop-x-preserved-then-not-is_iteration c =
    along_on _ _ _ _ _ _ (omega (arith, c.loop-x-test.true)) (skipped _ _ _ _ _ _ _ _ _ _ _ _ _ _ (sym c.is_iteration.ensures ∙ c.if-not-is_iteration.true)) refl ∙ c.loop-x.invariant

pub returns-then-same-width : goal.returns-then-same-width
returns-then-same-width c =
    let s = c.args in
    let last = ended c.if-at-run.run c.if-at-run.store c.if-at-run.out c.if-at-run.at ((c.loop-x.seen + c.agreeing_at-same.result) % 2 ^ 64) in
    answered s.l s.kernel s.chain s.rows.now s.pieces s.window.now s.cells.now s.field.now s.inside.now s.store.now s.out.now c.width-width.result c.references.result c.begin-run.result
    c.width-width.ensures c.references.ensures c.begin-run.ensures last
    (all_stop s.l s.kernel s.chain s.rows.now s.pieces c.width-width.result s.window.now s.cells.now s.field.now s.inside.now c.loop-z.z c.loop-y.y c.loop-x.x last
    (going c.loop-x.run c.loop-x.store c.loop-x.out c.loop-x.at c.loop-x.seen) (going c.loop-y.run c.loop-y.store c.loop-y.out c.loop-y.at c.loop-y.seen) (going c.loop-z.run c.loop-z.store c.loop-z.out c.loop-z.at c.loop-z.seen) (going c.begin-run.result s.store.now s.out.now 0 0)
    (differs s.l s.kernel s.chain s.rows.now s.pieces c.width-width.result s.window.now s.cells.now s.field.now s.inside.now c.loop-z.z c.loop-y.y c.loop-x.x _ _ _ _ _ _ _ _ _ _ _ (sym c.is_iteration.ensures ∙ c.if-not-is_iteration.false) (made (goal.at.returns-then-same-width c).Joined-at-run) (stands (goal.at.returns-then-same-width c).Joined-at-run) c.agreeing_at-same.ensures
    refl c.if-same-width.true) refl c.loop-x-test.true c.loop-y-test.true c.loop-z-test.true c.loop-x.invariant c.loop-y.invariant c.loop-z.invariant)

pub loop-x-preserved : goal.loop-x-preserved
loop-x-preserved c =
    along_on _ _ _ _ _ _ (omega (arith, c.loop-x-test.true))
    (agrees _ _ _ _ _ _ _ _ _ _ _ _ _ _ _ _ _ _ _ _ _ _ _ _ (sym c.is_iteration.ensures ∙ c.if-not-is_iteration.false) (made (goal.at.loop-x-preserved c).Joined-at-run) (stands (goal.at.loop-x-preserved c).Joined-at-run) c.agreeing_at-same.ensures refl c.if-same-width.false _ refl) refl
    ∙ c.loop-x.invariant

pub loop-y-preserved : goal.loop-y-preserved
loop-y-preserved c =
    let s = c.args in
    line_on s.l s.kernel s.chain s.rows.now s.pieces c.width-width.result s.window.now s.cells.now s.field.now s.inside.now c.loop-z.z c.loop-y.y c.loop-x.x
    (going c.loop-x.run c.loop-x.store c.loop-x.out c.loop-x.at c.loop-x.seen) (going c.loop-y.run c.loop-y.store c.loop-y.out c.loop-y.at c.loop-y.seen) (going c.loop-z.run c.loop-z.store c.loop-z.out c.loop-z.at c.loop-z.seen) refl c.loop-y-test.true c.loop-x-test.false c.loop-x.invariant c.loop-y.invariant

pub loop-z-preserved : goal.loop-z-preserved
loop-z-preserved c =
    let s = c.args in
    plane_on s.l s.kernel s.chain s.rows.now s.pieces c.width-width.result s.window.now s.cells.now s.field.now s.inside.now c.loop-z.z c.loop-y.y
    (going c.loop-y.run c.loop-y.store c.loop-y.out c.loop-y.at c.loop-y.seen) (going c.loop-z.run c.loop-z.store c.loop-z.out c.loop-z.at c.loop-z.seen) (going c.begin-run.result s.store.now s.out.now 0 0) refl c.loop-z-test.true c.loop-y-test.false c.loop-y.invariant c.loop-z.invariant

pub returns : goal.returns
returns c =
    let s = c.args in
    let end = going c.loop-z.run c.loop-z.store c.loop-z.out c.loop-z.at c.loop-z.seen in
    answered s.l s.kernel s.chain s.rows.now s.pieces s.window.now s.cells.now s.field.now s.inside.now s.store.now s.out.now c.width-width.result c.references.result c.begin-run.result
    c.width-width.ensures c.references.ensures c.begin-run.ensures end
    (all_gone s.l s.kernel s.chain s.rows.now s.pieces c.width-width.result s.window.now s.cells.now s.field.now s.inside.now c.loop-z.z end (going c.begin-run.result s.store.now s.out.now 0 0) c.loop-z-test.false c.loop-z.invariant)
