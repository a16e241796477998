-- What is taken from a block, from place `at` on.
use Rattle.std.specs.Prelude.{ℕ, ◌+◌, Bool, cond, ◌||◌, List, ltb, length, drop, Ok}
use Rattle.model.specs.declared.Arriving.{Arriving}
use Rattle.model.specs.declared.Frame.{Frame}
use Rattle.model.specs.declared.Last.{Last}
use Rattle.model_sheet.specs.Frames.{numbers_feeds}
use Rattle.model_sheet.specs.Arriving.{stood_first, Arrived, arrive, through_feed}
use Rattle.program_intake.specs.declared.LineTaken.{LineTaken}

-- An open line, `chars` characters longer: whether it has one, and what has arrived with it, where they make its frame `frame`.
abbrev pub started : Bool → (chars : ℕ) → Bool
started begun chars = begun || ltb 0 chars

abbrev pub longer : Arriving → Frame → (chars : ℕ) → Arriving
longer a frame chars = record
    { verdict = Ok tt; reading = a.reading; frame = frame; begun = started a.begun chars }

-- The rows' numbers with a piece of the open line: those of the sheet's first line alone.
unfoldable pub numbers_taken : Last → (rows : List ℕ) → Frame → (piece : List ℕ) → List ℕ
numbers_taken last rows frame piece = let more = numbers_feeds rows frame piece in cond (stood_first last) more rows

-- A sheet as it arrives, with the rows' numbers beside it.
abbrev pub beside : Arriving → (rows : List ℕ) → Arrived
beside a rows = record { sheet = a; rows = rows }

-- All that taking a line leaves: its answer, and the numbers.
pub record TookLine : Type 0 where
  pub answer : LineTaken
  pub rows : List ℕ

abbrev pub took_line : LineTaken → List ℕ → TookLine
took_line answer rows = record { answer = answer; rows = rows }

-- The characters through the first LF, or to the block's end.
unfoldable pub line_taken : (chained : Bool) → Arrived → (block : List ℕ) → (at : ℕ) → TookLine
line_taken chained a block at =
    let piece = through_feed (drop at block) in
    let t = arrive chained a piece in
    took_line (record { arriving = t.sheet; at = at + length piece }) t.rows
