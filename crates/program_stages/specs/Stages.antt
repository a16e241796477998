-- What the program `run` does next.
use Rattle.std.specs.Prelude.{ℕ, Bool, true, false, cond, List, ltb, Ok, Err}
use Rattle.model.specs.declared.Arriving.{Arriving}
use Rattle.model.specs.declared.Outcome.{Outcome}
use Rattle.model.specs.declared.Outcome.TheVariants as outcome
use Rattle.model.specs.Answers.{Verdict, Answer, done_byte, stalled_byte, by_verdict}
use Rattle.model.specs.Judging.{judge_chain}
use Rattle.model_sheet.specs.Reading.{complete}
use Rattle.program_stages.specs.declared.Stage.{Stage}
use Rattle.program_stages.specs.declared.Stage.TheVariants as stage

-- After a line of the sheet: at its `04` the chain is judged, with the rows' numbers beside it.
unfoldable pub sheet_stage : Arriving → (rows : List ℕ) → Stage
sheet_stage a rows =
    let whole = by_verdict (judge_chain a.reading.chain rows) stage.Cells stage.Refusing in
    by_verdict a.verdict (cond (complete a.reading) whole stage.Sheet) stage.Refusing

-- After `05` lines: a line that is turned back answers only where no cell is left.
unfoldable pub cells_stage : (count : ℕ) → Verdict → Stage
cells_stage count v = cond (ltb 0 count) stage.Clocks (by_verdict v stage.Cells stage.Refusing)

-- After a run call.
unfoldable pub outcome_stage : Outcome → Stage
outcome_stage (outcome.Done c) = stage.Ending done_byte
outcome_stage (outcome.Spent c) = stage.Clocks
outcome_stage (outcome.Starved c) = stage.Cells
outcome_stage (outcome.Stalled c) = stage.Ending stalled_byte
outcome_stage (outcome.Full c) = stage.Clocks

unfoldable pub answer_stage : Answer → Stage
unfolding outcome_stage
answer_stage (Ok o) = outcome_stage o
answer_stage (Err x) = stage.Refusing x

-- Nothing is left to do without more input, by the verdict of the line of cells that was read last.
unfoldable pub wants_by : Stage → Verdict → Bool
wants_by stage.Sheet v = true
wants_by stage.Cells v = by_verdict v true (λ x. false)
wants_by stage.Clocks v = false
wants_by (stage.Ending way) v = false
wants_by (stage.Refusing x) v = false
wants_by stage.Over v = false

-- Nothing is left to do.
unfoldable pub over : Stage → Bool
over stage.Sheet = false
over stage.Cells = false
over stage.Clocks = false
over (stage.Ending way) = false
over (stage.Refusing x) = false
over stage.Over = true
