-- What the programs write of a whole input, whatever blocks it arrives in and whatever they are lent.
use Rattle.std.specs.Prelude.{ℕ, zero, suc, ◌+◌, ◌*◌, ◌≤◌, ◌<◌, Bool, true, false, cond, ◌&&◌, ◌≡◌, eqb, negsuc, length, take}
use mathlib.Core.List.{List, [], ◌∷◌, ◌++◌, flatten}
use Rattle.model.specs.declared.Refusal.TheVariants as refusal
use Rattle.model.specs.Answers.{Verdict, starved_byte, by_verdict}
use Rattle.model.specs.Values.{trimmed}
use Rattle.model_sheet.specs.Lines.{lines_of}
use Rattle.model_sheet.specs.Frames.{framed}
use Rattle.model_sheet.specs.Reading.{start, complete, numbers_in}
use Rattle.model_run.specs.Running.{Starved}
use Rattle.model_sheet.specs.Arriving.{Arrived, opening, arrive}
use Rattle.model.specs.Judging.{most_places}
use Rattle.model_sheet.specs.Writing.{longest_sheet}
use Rattle.model_program.specs.Programs.{sheet_and_behind, cells_in, whole_run, end_line, refusal_text, plan_text, run_text}
use Rattle.model_program.specs.Programs.{most_words, longest_firing, plan_text_places, store_places, cell_places, word_places}
use Rattle.model_program.specs.Programs.{run_text_places}
use Rattle.program_writer.specs.Texts.{laid_if_fits}
use Rattle.program_jobs.specs.declared.Job.{Job}
use Rattle.program_stages.specs.declared.Stage.{Stage}
use Rattle.program_stages.specs.declared.Stage.TheVariants as stage
use Rattle.program_stages.specs.Stages.{over}
use Rattle.program_jobs.specs.Jobs.{begun, closed, after_read, wants_input}
use Rattle.program_answer.specs.Answer.{plan_answer}
use Rattle.program_driver.specs.RunSteps.{advanced}

-- The loop of `run` before a turn: the block at hand, of which the characters before `at` were looked at; the blocks that
-- further reads give; what was lent; and all that was written so far.
pub record Loop : Type 0 where
  pub job : Job
  pub block : List ℕ
  pub at : ℕ
  pub blocks : List (List ℕ)
  pub rows : List ℕ
  pub store : List ℕ
  pub cells : List ℕ
  pub words : List ℕ
  pub text : List ℕ
  pub written : List ℕ

-- The loop with another job and block.
abbrev pub with_block : Loop → Job → (block : List ℕ) → (blocks : List (List ℕ)) → Loop
with_block l j block blocks = record {
  job = j;
  block = block;
  at = 0;
  blocks = blocks;
  rows = l.rows;
  store = l.store;
  cells = l.cells;
  words = l.words;
  text = l.text;
  written = l.written;
}

-- A read. Where no block is left the input has ended.
abbrev pub received : List (List ℕ) → Loop → Loop
received [] l = with_block l (closed l.job) [] []
received (b ∷ bs) l = with_block l l.job b bs

-- A read only where the block is used up and nothing is left to do without more input.
unfoldable pub supplied : Loop → Loop
supplied l = cond (eqb l.at (length l.block) && wants_input l.job) (received l.blocks l) l

-- A step, and its text written.
unfoldable pub stepped : Loop → Loop
stepped l =
    let s = advanced l.job l.block l.at l.rows l.store l.cells l.words l.text in
    record {
      job = s.step.job;
      block = l.block;
      at = s.step.at;
      blocks = l.blocks;
      rows = s.rows;
      store = s.store;
      cells = s.cells;
      words = s.words;
      text = s.text;
      written = l.written ++ take s.step.bytes s.text;
    }

unfoldable pub turn : Loop → Loop
turn l = cond (over l.job.stage) l (stepped (supplied l))

unfoldable pub turns : ℕ → Loop → Loop
turns zero l = l
turns (suc n) l = turns n (turn l)

-- Places enough: a store for every accepted chain, a cell, the words of a firing, and the text of its line.
pub record Lent : Type 0 where
  pub store : List ℕ
  pub cells : List ℕ
  pub words : List ℕ
  pub text : List ℕ
  pub places : most_places ≤ length store
  pub some_cells : 1 ≤ length cells
  pub some_words : most_words ≤ length words
  pub some_text : longest_firing ≤ length text

-- No block is empty: a read that gives no character is the end of the input.
abbrev pub NonEmpty : List (List ℕ) → Type 0
NonEmpty [] = Unit {0}
NonEmpty (b ∷ bs) = (0 < length b) × NonEmpty bs

-- Before the first turn: no row has arrived.
unfoldable pub start_of : (blocks : List (List ℕ)) → Lent → Loop
start_of blocks lent = record {
  job = begun;
  block = [];
  at = 0;
  blocks = blocks;
  rows = opening.rows;
  store = lent.store;
  cells = lent.cells;
  words = lent.words;
  text = lent.text;
  written = [];
}

-- The program is over.
abbrev pub Over : Loop → Type 0
Over l = over l.job.stage ≡ true

-- No run of `run` has more turns. A run makes at most 33554432 clocks: 32 filters times 1048576 cells.
abbrev pub most_turns : (input : List ℕ) → ℕ
most_turns input = 3 * (length input + 33554432) + 2

-- Where `run` is over it has written what document 01 says of the whole input.
abbrev pub Writes : Type 0
Writes = (blocks : List (List ℕ)) → NonEmpty blocks → (lent : Lent) (n : ℕ)
    → Over (turns n (start_of blocks lent)) → (turns n (start_of blocks lent)).written ≡ run_text (flatten blocks)

-- And it ends.
abbrev pub Ends : Type 0
Ends = (blocks : List (List ℕ)) → NonEmpty blocks → (lent : Lent)
    → Over (turns (most_turns (flatten blocks)) (start_of blocks lent))

-- At all times what it has written is the first part of that.
pub record FirstPart (part whole : List ℕ) : Type 0 where
  pub rest : List ℕ
  pub joined : part ++ rest ≡ whole

abbrev pub NothingElse : Type 0
NothingElse = (blocks : List (List ℕ)) → NonEmpty blocks → (lent : Lent) (n : ℕ)
    → FirstPart (turns n (start_of blocks lent)).written (run_text (flatten blocks))

-- A turn that waits for a read.
abbrev pub Waits : Loop → Type 0
Waits l = (eqb l.at (length l.block) && wants_input l.job) ≡ true

-- The last line that the end of the input would bring there: starved, a line without its LF, or a line missing.
pub data Missing (clocks : ℕ) : List ℕ → Type 0 where
  no_cell : Missing clocks (framed (end_line starved_byte clocks))
  no_feed : Missing clocks (refusal_text refusal.Malformed)
  no_line : Missing clocks (refusal_text refusal.Misplaced)

-- All of the text of this input was written, but for such a last line.
pub record Told (input : List ℕ) (l : Loop) : Type 0 where
  pub last : List ℕ
  pub missing : Missing l.job.clocks last
  pub all : l.written ++ last ≡ run_text input

-- Before it waits it writes what is due: it reads where the blocks read so far have nothing more to say.
abbrev pub WritesFirst : Type 0
WritesFirst = (past further : List (List ℕ)) → NonEmpty (past ++ further) → (lent : Lent) (n : ℕ)
    → (turns n (start_of (past ++ further) lent)).blocks ≡ further → Waits (turns n (start_of (past ++ further) lent))
    → Told (flatten past) (turns n (start_of (past ++ further) lent))

-- "It reads a `05` line only when starved, and stops reading at done or stalled": where it waits behind the `04`, the run
-- over the cells read so far is starved.
abbrev pub StarvedAt : (input : List ℕ) → Type 0
StarvedAt input =
    let rows = numbers_in input in
    let p = sheet_and_behind rows start (lines_of input) in
    complete p.step.reading ≡ true → (whole_run (trimmed p.step.reading.chain rows) (cells_in p.behind)).ending ≡ Starved

abbrev pub ReadsStarved : Type 0
ReadsStarved = (past further : List (List ℕ)) → NonEmpty (past ++ further) → (lent : Lent) (n : ℕ)
    → (turns n (start_of (past ++ further) lent)).blocks ≡ further → Waits (turns n (start_of (past ++ further) lent))
    → StarvedAt (flatten past)

-- Nothing that is still to be read can change the text: the last line is due, or behind the sheet a line was turned back.
abbrev pub settled : Stage → Verdict → Bool
settled stage.Sheet v = false
settled stage.Cells v = by_verdict v false (λ x. true)
settled stage.Clocks v = by_verdict v false (λ x. true)
settled (stage.Ending way) v = true
settled (stage.Refusing x) v = true
settled stage.Over v = true

-- From there on no block is read.
abbrev pub StopsReading : Type 0
StopsReading = (l : Loop) (n : ℕ) → settled l.job.stage l.job.line.verdict ≡ true → (turns n l).blocks ≡ l.blocks

-- After a read that failed the step writes nothing, no last line either, and the program is over.
abbrev pub ReadFails : Type 0
ReadFails = (j : Job) (n : ℕ) (block : List ℕ) (at : ℕ) (rows store cells words text : List ℕ)
    → let s = (advanced (after_read (negsuc n) j) block at rows store cells words text).step in (over s.job.stage ≡ true)
    × (s.bytes ≡ 0)

-- `plan` takes block after block, up to the first that is turned back.
unfoldable pub plan_taken : Arrived → List (List ℕ) → Arrived
plan_taken a [] = a
plan_taken a (b ∷ bs) =
    let next = arrive false a b in
    let further = plan_taken next bs in
    by_verdict next.sheet.verdict further (λ x. next)

-- What it lays into its text at the end is what document 01 says of the whole input.
abbrev pub PlanWrites : Type 0
PlanWrites = (blocks : List (List ℕ)) (text : List ℕ) → longest_sheet ≤ length text
    → let a = plan_taken opening blocks in
    let t = laid_if_fits (plan_answer a.sheet a.rows) text in take t.chars t.output ≡ plan_text (flatten blocks)

-- The buffers of the programs have places enough.
pub record Buffers : Type 0 where
  pub store : most_places ≤ store_places
  pub cells : 1 ≤ cell_places
  pub words : most_words ≤ word_places
  pub text : longest_firing ≤ run_text_places
  pub plan_text_lem : longest_sheet ≤ plan_text_places

-- All of them.
pub record ProgramLaws : Type 0 where
  pub writes : Writes
  pub ends : Ends
  pub nothing_else : NothingElse
  pub writes_first : WritesFirst
  pub reads_starved : ReadsStarved
  pub stops_reading : StopsReading
  pub read_fails : ReadFails
  pub plan_writes : PlanWrites
  pub buffers : Buffers
