-- Sheets that one call wrote and another reads.
use Rattle.std.specs.Prelude.{ℕ, ◌≤◌, ◌<◌, true, List, ◌≡◌, length, take}
use Rattle.model.specs.Values.{trimmed, Same, chain_of}
use Rattle.model_sheet.specs.NamedWindows.{is_name, named_of}
use Rattle.sheet_trips.specs.Names.{FirstLine, by_name, written_out, BeginsWithOffset}
use Rattle.zohmirka_words.specs.Words.{word_at, chain_size, chain_in, row_places, row_words, laid}
use Rattle.zohmirka.specs.Calls.{Sheets, Reads, plan_call, judge_call, read_call, judge_chain_call, write_call}

-- The bytes that a call wrote.
abbrev pub bytes_of : Sheets → List ℕ
bytes_of w = take w.answer.bytes w.sheet

-- What was planned is accepted.
abbrev pub PlanJudged : Type 0
PlanJudged = (request sheet : List ℕ) → (plan_call request sheet).answer.refusal ≡ 0
    → judge_call (bytes_of (plan_call request sheet)) ≡ 0

-- A request whose window is given by its name is planned as the one with its offsets written out: answer and slice (document
-- 02, request 1).
abbrev pub PlannedByName : Type 0
PlannedByName =
    (name : ℕ) (first rest sheet : List ℕ) → is_name name ≡ true → FirstLine (named_of name).dims first
    → (BeginsWithOffset rest → ⊥)
    → plan_call (by_name name first rest) sheet ≡ plan_call (written_out name first rest) sheet

-- A sheet that was read into words and rows: these are accepted, and written again they are that sheet, byte by byte.
abbrev pub ReadJudged : Type 0
ReadJudged = (sheet chain rows : List ℕ) → (read_call sheet chain rows).refusal ≡ 0
    → judge_chain_call (read_call sheet chain rows).chain (read_call sheet chain rows).rows ≡ 0

abbrev pub ReadWritten : Type 0
ReadWritten =
    (sheet chain rows out : List ℕ) → (read_call sheet chain rows).refusal ≡ 0 → length sheet ≤ length out
    → write_call (read_call sheet chain rows).chain (read_call sheet chain rows).rows out
    ≡ record { answer = record { refusal = 0; bytes = length sheet }; sheet = laid sheet out }

-- Words, of 32 bits each, and the rows beside them that were written as a sheet: it is accepted, and read into any slices
-- that are long enough it is the same chain, with 0 past its counts, for the filters of an order and for the indices of a box
-- that did not stand, and the same rows.
module _ (chain rows sheet room places : List ℕ) where
  abbrev reread : Reads
  reread = read_call (bytes_of (write_call chain rows sheet)) room places

  pub record Reread : Type 0 where
    pub judged : judge_call (bytes_of (write_call chain rows sheet)) ≡ 0
    pub read : reread.refusal ≡ 0
    pub same : chain_in reread.chain ≡ chain_of (trimmed (chain_in chain) rows)
    pub rows_same : reread.rows ≡ laid (row_words (chain_in chain).grid rows) places
    pub whole : Same (chain_in reread.chain) reread.rows (chain_in chain) rows

abbrev pub WrittenRead : Type 0
WrittenRead =
    (chain rows sheet room places : List ℕ) → ((i : ℕ) → word_at chain i < 4294967296)
    → (write_call chain rows sheet).answer.refusal ≡ 0 → chain_size ≤ length room
    → row_places (chain_in chain).grid ≤ length places → Reread chain rows sheet room places
