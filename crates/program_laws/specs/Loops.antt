-- The loops of the programs, as their code goes through them. No contract can name what a read gave, so they speak of some
-- answer and of some blocks.
use Rattle.std.specs.Prelude.{ℕ, suc, ◌≤◌, Bool, true, false, ◌&&◌, ◌≡◌, eqb, ℤ, pos, negsuc, length, Option, None, Some}
use mathlib.Core.List.{List, [], ◌++◌, flatten}
use Rattle.model.specs.declared.Arriving.{Arriving}
use Rattle.model_sheet.specs.Arriving.{Arrived, opening}
use Rattle.model_program.specs.Programs.{plan_text}
use Rattle.program_jobs.specs.declared.Job.{Job}
use Rattle.program_stages.specs.Stages.{over}
use Rattle.program_jobs.specs.Jobs.{after_read, wants_input}
use Rattle.program_laws.specs.Whole.{Loop, turns, Lent, NonEmpty, start_of, plan_taken}

-- How many characters a read gave, by its answer.
abbrev pub given : ℤ → ℕ
given (pos n) = n
given (negsuc n) = 0

-- `run`: a read is due where the block of `len` characters is used up and nothing is left to do without more input.
abbrev pub read_due : Job → (at len : ℕ) → Bool
read_due j at len = eqb at len && wants_input j

-- After a read into `room` places: the job and the block, by its answer.
pub record Answered (j : Job) (room : ℕ) (job : Job) (at len : ℕ) : Type 0 where
  pub answer : ℤ
  pub within : given answer ≤ room
  pub told : job ≡ after_read answer j
  pub start : at ≡ 0
  pub block : len ≡ given answer

-- Without one all is as it was.
pub record Unread (j : Job) (at len : ℕ) (before : List ℕ) (job : Job) (at' len' : ℕ) (after : List ℕ) : Type 0 where
  pub told : job ≡ j
  pub start : at' ≡ at
  pub block : len' ≡ len
  pub same : after ≡ before

abbrev pub SuppliedBy : Bool → Job → (at len : ℕ) → (before : List ℕ) → (job : Job) → (at' len' : ℕ) → (after : List ℕ) → Type 0
SuppliedBy true j at len before job at' len' after = Answered j (length before) job at' len'
SuppliedBy false j at len before job at' len' after = Unread j at len before job at' len' after

-- What a turn takes its step with: a read is made where one is due, and nowhere else.
abbrev pub Supplied : Job → (at len : ℕ) → (before : List ℕ) → (job : Job) → (at' len' : ℕ) → (after : List ℕ) → Type 0
Supplied j at len before job at' len' after = SuppliedBy (read_due j at len) j at len before job at' len' after

-- The loop of `run` with these variables, where `written` was written and further reads give `blocks`.
abbrev pub loop_of : Job → (block : List ℕ) → (at : ℕ) → (rows store cells words text written : List ℕ)
    → (blocks : List (List ℕ)) → Loop
loop_of j block at rows store cells words text written blocks = record {
  job = j;
  block = block;
  at = at;
  blocks = blocks;
  rows = rows;
  store = store;
  cells = cells;
  words = words;
  text = text;
  written = written;
}

-- Before a turn of `run`: some blocks were read, and turns lead here whatever further reads give; or the program is over.
pub data InLoop (j : Job) (block : List ℕ) (at : ℕ) (rows store cells words text : List ℕ) : Type 0 where
  going : (lent : Lent) (past : List (List ℕ)) → NonEmpty past → (n : ℕ) (written : List ℕ)
      → ((further : List (List ℕ))
      → turns n (start_of (past ++ further) lent) ≡ loop_of j block at rows store cells words text written further)
      → InLoop j block at rows store cells words text
  ended : over j.stage ≡ true → InLoop j block at rows store cells words text

-- A text that is due where a turn leaves this job: what the turn writes of the blocks read, or nothing where the read failed.
pub data RunDue (j : Job) : List ℕ → Type 0 where
  turn_text : {text : List ℕ} (blocks : List (List ℕ)) → NonEmpty blocks → (lent : Lent) (n : ℕ)
      → (turns (suc n) (start_of blocks lent)).job ≡ j
      → (turns (suc n) (start_of blocks lent)).written ≡ (turns n (start_of blocks lent)).written ++ text → RunDue j text
  read_failed : over j.stage ≡ true → RunDue j []

-- Before a turn of `plan`: some blocks were taken, whatever further reads give.
pub record Taking (a : Arrived) : Type 0 where
  pub past : List (List ℕ)
  pub same : (further : List (List ℕ)) → plan_taken opening (past ++ further) ≡ plan_taken a further

-- And after the last one, where no read failed.
pub record Taken (a : Arrived) : Type 0 where
  pub blocks : List (List ℕ)
  pub same : plan_taken opening blocks ≡ a

abbrev pub TakenIn : Option Arriving → (rows : List ℕ) → Type 0
TakenIn None rows = Unit {0}
TakenIn (Some a) rows = Taken (record { sheet = a; rows = rows })

-- A text that is due of this sheet: that of the blocks read.
pub record PlanDue (a : Arriving) (rows text : List ℕ) : Type 0 where
  pub blocks : List (List ℕ)
  pub same : plan_taken opening blocks ≡ record { sheet = a; rows = rows }
  pub due : text ≡ plan_text (flatten blocks)
