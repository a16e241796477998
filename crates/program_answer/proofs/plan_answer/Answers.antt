use mathlib.Core.Path.{sym, ◌∙◌}
use Rattle.program_writer.proofs.WithinLaws.{laid_within}
use Rattle.program_answer.proofs.AnswerLaws.{plan_refused, plan_written}
use Rattle.program_answer.proofs.plan_answer.Goals as goal

pub returns-in-Ok : goal.returns-in-Ok
returns-in-Ok c =
    let told = plan_written _ _ _ _ _ _ (sym c.planned.ensures ∙ c.in-Ok.is) _ c.write_chain.ensures c.unwrap_or.ensures in
    record { text_after = told; within = laid_within _ _ _ _ told }

pub returns-in-Err : goal.returns-in-Err
returns-in-Err c =
    let told = plan_refused _ _ _ _ _ _ (sym c.planned.ensures ∙ c.in-Err.is) c.put_refusal.ensures in
    record { text_after = told; within = laid_within _ _ _ _ told }
