-- What is to be written lies within the text.
use Rattle.std.proofs.Common.{◌≡◌, ℕ, ◌≤◌, List, length, sym, subst, arith}
use Rattle.program_writer.specs.Texts.{firings_laid, Within}
use Rattle.program_writer.proofs.WithinLaws.{there, over_within, if_within}
use Rattle.program_jobs.specs.declared.Job.{Job}
use Rattle.program_stages.specs.declared.Stage.{Stage}
use Rattle.program_stages.specs.declared.Stage.TheVariants as stage
use Rattle.program_driver.specs.declared.Step.{Step}
use Rattle.program_driver.specs.RunSteps.{Left, left, sheet_read, cells_read, ran_on, last_line, advanced_by, advanced}

-- What a step of `run` writes.
pub step_within : (s : Step) (rows store cells words text : List ℕ) (j : Job) (block : List ℕ) (at : ℕ) (rows₀ store₀ cells₀ words₀ text₀ : List ℕ)
    → left s rows store cells words text ≡ advanced j block at rows₀ store₀ cells₀ words₀ text₀ → Within s.bytes text
unfolding advanced advanced_by sheet_read cells_read ran_on last_line firings_laid
step_within s rows store cells words text j block at rows₀ store₀ cells₀ words₀ text₀ e =
    there s.bytes text (subst (λ (x : Left). x.step.bytes ≤ length x.text) (sym e) (by_stage j.stage))
  where
    by_stage : (x : Stage) → (advanced_by x j block at rows₀ store₀ cells₀ words₀ text₀).step.bytes ≤ length (advanced_by x j block at rows₀ store₀ cells₀ words₀ text₀).text
    by_stage stage.Sheet = omega arith
    by_stage stage.Cells = omega arith
    by_stage stage.Clocks = over_within _ _
    by_stage (stage.Ending way) = if_within _ _
    by_stage (stage.Refusing x) = if_within _ _
    by_stage stage.Over = omega arith
