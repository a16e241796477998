-- A step of the program `run`.
use Rattle.std.specs.Prelude.{◌≡◌, ℕ, ◌+◌, ◌%◌, ◌^◌, min, true, List, ◌++◌, length, take, drop}
use Rattle.model.specs.declared.Chain.{Chain}
use Rattle.model.specs.declared.Ran.{Ran}
use Rattle.model.specs.declared.State.{State}
use Rattle.model.specs.Answers.{Answer, answer_counts}
use Rattle.model_sheet.specs.Frames.{framed}
use Rattle.model_run.specs.Kernels.{width}
use Rattle.model_run.specs.Running.{Run, run_of}
use Rattle.model_program.specs.Programs.{end_line, refusal_text}
use Rattle.runner.specs.Runs.{ran_of}
use Rattle.program_intake.specs.Taken.{beside, line_taken}
use Rattle.program_cells.specs.Cells.{cells_taken}
use Rattle.program_writer.specs.Texts.{laid_if_fits, room_for, firings_laid}
use Rattle.program_jobs.specs.declared.Job.{Job}
use Rattle.program_stages.specs.declared.Stage.{Stage}
use Rattle.program_stages.specs.declared.Stage.TheVariants as stage
use Rattle.program_stages.specs.Stages.{sheet_stage, cells_stage, answer_stage}
use Rattle.program_jobs.specs.Jobs.{staged}
use Rattle.program_driver.specs.declared.Step.{Step}

-- All that a step leaves: what it hands back, and what it was lent.
pub record Left : Type 0 where
  pub step : Step
  pub rows : List ℕ
  pub store : List ℕ
  pub cells : List ℕ
  pub words : List ℕ
  pub text : List ℕ

abbrev pub left : Step → (rows store cells words text : List ℕ) → Left
left step rows store cells words text = record
    { step = step; rows = rows; store = store; cells = cells; words = words; text = text }

-- A line of the sheet.
unfoldable pub sheet_read : Job → (block : List ℕ) → (at : ℕ) → (rows store cells words text : List ℕ) → Left
sheet_read j block at rows store cells words text =
    let t = line_taken true (beside j.arriving rows) block at in
    let a = t.answer in
    let step : Step = record {
      job = record {
        stage = sheet_stage a.arriving t.rows;
        arriving = a.arriving;
        state = j.state;
        clocks = j.clocks;
        line = j.line;
        from = j.from;
        count = j.count;
      };
      at = a.at;
      bytes = 0;
    } in
    left step t.rows store cells words text

-- A step that was lent no more than the block and the rows.
abbrev pub LeavesRows : Step → Job → (block : List ℕ) → (at : ℕ) → (before after : List ℕ) → Type 0
LeavesRows s j block at before after = (store cells words text : List ℕ)
    → left s after store cells words text ≡ sheet_read j block at before store cells words text

-- `05` lines.
unfoldable pub cells_read : Job → (block : List ℕ) → (at : ℕ) → (rows store cells words text : List ℕ) → Left
cells_read j block at rows store cells words text =
    let t = cells_taken j.line block at cells in
    let a = t.answer in
    let step : Step = record {
      job = record {
        stage = cells_stage a.count a.line.verdict;
        arriving = j.arriving;
        state = j.state;
        clocks = j.clocks;
        line = a.line;
        from = 0;
        count = a.count;
      };
      at = a.at;
      bytes = 0;
    } in
    left step rows store t.cells words text

-- A step that was lent no more than the block and the cells.
abbrev pub LeavesCells : Step → Job → (block : List ℕ) → (at : ℕ) → (before after : List ℕ) → Type 0
LeavesCells s j block at before after = (rows store words text : List ℕ)
    → left s rows store after words text ≡ cells_read j block at rows store before words text

-- The call: it is lent the cells from `from` to before `to`, and the first `places` words as its output.
abbrev pub part_run : Chain → (rows : List ℕ) → State → (store cells words : List ℕ) → (from to places : ℕ) → Run
part_run c rows s store cells words from to places = run_of c rows s store (drop from (take to cells)) (take places words)
    4294967295

-- What it leaves, where `store` and `words` are as it left them.
abbrev pub part_left : Ran → (store words : List ℕ) → (places : ℕ) → Run
part_left r store words places = ran_of r store (take places words)

-- Words past the first `places` are as before.
abbrev pub KeptBehind : (places : ℕ) → (before after : List ℕ) → Type 0
KeptBehind places before after = after ≡ (take places after ++ drop places before)

-- The job after it, where it was lent the cells from `from` to before `to`.
abbrev pub job_after : Job → Answer → State → (from to : ℕ) → Job
job_after j a s from to = record {
  stage = answer_stage a;
  arriving = j.arriving;
  state = s;
  clocks = (j.clocks + (answer_counts a).clocks) % 2 ^ 32;
  line = j.line;
  from = from + (answer_counts a).cells;
  count = to;
}

-- A run call over the cells at hand, with as many output places as there is room for their lines.
unfoldable pub ran_on : Job → (at : ℕ) → (rows store cells words text : List ℕ) → Left
ran_on j at rows store cells words text =
    let chain = j.arriving.reading.chain in
    let size = width chain.kernel chain.window.count in
    let places = min (length words) (room_for size (length text)) in
    let to = min j.count (length cells) in
    let from = min j.from to in
    let r = part_run chain rows j.state store cells words from to places in
    let output = r.output ++ drop places words in
    let t = firings_laid size j.state.fired.0 (answer_counts r.answer).firings output text in
    left (record { job = job_after j r.answer r.state from to; at = at; bytes = t.chars }) rows r.store cells output
    t.output

-- The last line.
unfoldable pub last_line : Job → (line : List ℕ) → (at : ℕ) → (rows store cells words text : List ℕ) → Left
last_line j line at rows store cells words text =
    let t = laid_if_fits line text in
    left (record { job = staged j stage.Over; at = at; bytes = t.chars }) rows store cells words t.output

-- One step.
unfoldable pub advanced_by : Stage → Job → (block : List ℕ) → (at : ℕ) → (rows store cells words text : List ℕ) → Left
advanced_by stage.Sheet j block at rows store cells words text = sheet_read j block at rows store cells words text
advanced_by stage.Cells j block at rows store cells words text = cells_read j block at rows store cells words text
advanced_by stage.Clocks j block at rows store cells words text = ran_on j at rows store cells words text
advanced_by (stage.Ending way) j block at rows store cells words text = last_line j (framed (end_line way j.clocks)) at rows
    store cells words text
advanced_by (stage.Refusing x) j block at rows store cells words text =
    last_line j (refusal_text x) at rows store cells words text
advanced_by stage.Over j block at rows store cells words text = left (record { job = j; at = at; bytes = 0 }) rows store cells
    words text

unfoldable pub advanced : Job → (block : List ℕ) → (at : ℕ) → (rows store cells words text : List ℕ) → Left
advanced j block at rows store cells words text = advanced_by j.stage j block at rows store cells words text
