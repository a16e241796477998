-- Steps that read: a line of the sheet, and the cells of a block; and a step by its stage.
use Rattle.std.proofs.Common.{◌≡◌, ℕ, true, List, sym, ap, ◌∙◌}
use Rattle.model.specs.declared.Refusal.{Refusal}
use Rattle.model_sheet.specs.Frames.{framed}
use Rattle.model_program.specs.Programs.{end_line, refusal_text}
use Rattle.program_cells.specs.declared.CellsTaken.{CellsTaken}
use Rattle.program_intake.specs.declared.LineTaken.{LineTaken}
use Rattle.program_intake.specs.Taken.{beside, took_line, line_taken}
use Rattle.program_cells.specs.Cells.{took, cells_taken}
use Rattle.program_writer.specs.Texts.{laid, laid_if_fits}
use Rattle.program_jobs.specs.declared.Job.{Job}
use Rattle.program_stages.specs.declared.Stage.{Stage}
use Rattle.program_stages.specs.declared.Stage.TheVariants as stage
use Rattle.program_driver.specs.declared.Step.{Step}
use Rattle.program_stages.specs.Stages.{sheet_stage, cells_stage}
use Rattle.program_jobs.specs.Jobs.{staged}
use Rattle.program_driver.specs.RunSteps.{Left, left, sheet_read, LeavesRows, cells_read, LeavesCells, ran_on, last_line, advanced_by, advanced}

pub sheet_step : (j : Job) (block : List ℕ) (at : ℕ) (before after : List ℕ) (t : LineTaken) (s : Stage) → took_line t after ≡ line_taken true (beside j.arriving before) block at
    → s ≡ sheet_stage t.arriving after
    → LeavesRows
    (record {
      job = record { stage = s; arriving = t.arriving; state = j.state; clocks = j.clocks; line = j.line; from = j.from; count = j.count };
      at = t.at;
      bytes = 0;
    }) j block at before after
unfolding sheet_read
sheet_step j block at before after t s e f store cells words text = rw (f, sym e)

pub cells_step : (j : Job) (block : List ℕ) (at : ℕ) (before after : List ℕ) (t : CellsTaken) (s : Stage) → took t after ≡ cells_taken j.line block at before
    → s ≡ cells_stage t.count t.line.verdict
    → LeavesCells
    (record {
      job = record { stage = s; arriving = j.arriving; state = j.state; clocks = j.clocks; line = t.line; from = 0; count = t.count };
      at = t.at;
      bytes = 0;
    }) j block at before after
unfolding cells_read
cells_step j block at before after t s e f rows store words text = rw (f, sym e)

module _ (j : Job) (block : List ℕ) (at : ℕ) (rows store cells words text : List ℕ) where
  by_stage : (s : Stage) → j.stage ≡ s → advanced_by s j block at rows store cells words text ≡ advanced j block at rows store cells words text
  unfolding advanced
  by_stage s e = sym (ap (λ (x : Stage). advanced_by x j block at rows store cells words text) e)

  pub by_sheet : (s : Step) (after : List ℕ) → j.stage ≡ stage.Sheet → LeavesRows s j block at rows after → left s after store cells words text ≡ advanced j block at rows store cells words text
  unfolding advanced_by
  by_sheet s after e f = f store cells words text ∙ by_stage stage.Sheet e

  pub by_cells : (s : Step) (after : List ℕ) → j.stage ≡ stage.Cells → LeavesCells s j block at cells after → left s rows store after words text ≡ advanced j block at rows store cells words text
  unfolding advanced_by
  by_cells s after e f = f rows store words text ∙ by_stage stage.Cells e

  pub by_clocks : (x : Left) → j.stage ≡ stage.Clocks → x ≡ ran_on j at rows store cells words text → x ≡ advanced j block at rows store cells words text
  unfolding advanced_by
  by_clocks x e f = f ∙ by_stage stage.Clocks e

  last_line_lem : (line : List ℕ) (bytes : ℕ) (after : List ℕ) (k : Job) → laid bytes after ≡ laid_if_fits line text → k ≡ staged j stage.Over
      → left (record { job = k; at = at; bytes = bytes }) rows store cells words after ≡ last_line j line at rows store cells words text
  unfolding last_line
  last_line_lem line bytes after k f g = rw (g, sym f)

  pub by_ending : (way bytes : ℕ) (after : List ℕ) (k : Job) → j.stage ≡ stage.Ending way → laid bytes after ≡ laid_if_fits (framed (end_line way j.clocks)) text
      → k ≡ staged j stage.Over → left (record { job = k; at = at; bytes = bytes }) rows store cells words after ≡ advanced j block at rows store cells words text
  unfolding advanced_by
  by_ending way bytes after k e f g = last_line_lem (framed (end_line way j.clocks)) bytes after k f g ∙ by_stage (stage.Ending way) e

  pub by_refusing : (x : Refusal) (bytes : ℕ) (after : List ℕ) (k : Job) → j.stage ≡ stage.Refusing x → laid bytes after ≡ laid_if_fits (refusal_text x) text
      → k ≡ staged j stage.Over → left (record { job = k; at = at; bytes = bytes }) rows store cells words after ≡ advanced j block at rows store cells words text
  unfolding advanced_by
  by_refusing x bytes after k e f g = last_line_lem (refusal_text x) bytes after k f g ∙ by_stage (stage.Refusing x) e

  pub by_over : j.stage ≡ stage.Over → left (record { job = j; at = at; bytes = 0 }) rows store cells words text ≡ advanced j block at rows store cells words text
  unfolding advanced_by
  by_over e = by_stage stage.Over e
