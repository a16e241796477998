use Rattle.std.proofs.Common.{rules, sym, ◌∙◌, refl, arith}
use Rattle.program_laws.proofs.Loops.{in_loop_start, turn_leaves}
use Rattle.run.proofs.main.Goals as goal

pub loop-init : goal.loop-init
loop-init c =
    (search rules, in_loop_start _ c.begin-job.ensures _ _ _ _ _ refl (search rules) (search rules) (search rules) (search rules))

-- A turn, at its step.
pub write_due-requires : goal.write_due-requires
write_due-requires c =
    let l = c.loop in
    let p = c.supply-s in
    (turn_leaves l.job l.block l.at l.len l.rows l.store l.cells l.words l.text l.invariant.0
    (sym c.is_over.ensures ∙ c.if-is_over.false) l.invariant.1 p.result.job p.result.at p.result.len p.new.block p.auto.block
    p.ensures.supplied _ c.advance-t.ensures.text_after).1

pub loop-preserved : goal.loop-preserved
loop-preserved c =
    let l = c.loop in
    let p = c.supply-s in (
      p.ensures.within.0,
      (turn_leaves l.job l.block l.at l.len l.rows l.store l.cells l.words l.text l.invariant.0
          (sym c.is_over.ensures ∙ c.if-is_over.false) l.invariant.1 p.result.job p.result.at p.result.len p.new.block p.auto.block
          p.ensures.supplied _ c.advance-t.ensures.text_after).0,
    )
