-- Windows by name (document 02, request 1): "A sheet with the name plans exactly as one with the offsets written out in that
-- order".
use Rattle.std.specs.Prelude.{ℕ, true, ◌≡◌, take, Err}
use Rattle.model.specs.Answers.{by_answer}
use mathlib.Core.List.{List, [], ◌∷◌, ◌++◌, map, flat_map}
use Rattle.model.specs.Planning.{plan_of}
use Rattle.model_sheet.specs.Frames.{digits_of, framed}
use Rattle.model_sheet.specs.NamedWindows.{is_name, named_of, offsets_named}
use Rattle.model_sheet.specs.Reading.{read_request, numbers_in}
use Rattle.model_sheet.specs.Writing.{offset_line}
use Rattle.model_program.specs.Programs.{plan_text}

-- The bytes of a first line with this many dimensions: an `01` line, with any bytes behind the dimension count; an `09` line,
-- with any bytes behind its first, where there are two.
pub data FirstLine (dims : ℕ) : List ℕ → Type 0 where
  sized : (bytes : List ℕ) → FirstLine dims (1 ∷ dims ∷ bytes)
  rowed : dims ≡ 2 → (bytes : List ℕ) → FirstLine dims (9 ∷ bytes)

module _ (name : ℕ) (first rest : List ℕ) where
  -- A sheet: its first line, the lines of the window, and any characters.
  abbrev sheet_with : (window : List ℕ) → List ℕ
  sheet_with window = framed first ++ (window ++ rest)

  -- The window by its name, and by its offsets in the order of the list.
  abbrev pub by_name : List ℕ
  by_name = sheet_with (framed (7 ∷ name ∷ []))

  abbrev pub written_out : List ℕ
  written_out = sheet_with (flat_map framed (map offset_line (offsets_named name)))

-- What reading two sheets gives, verdict and request, and the rows beside it; the plan of that request, verdict and chain;
-- and what `plan` writes, byte for byte.
pub record PlannedAlike (one other : List ℕ) : Type 0 where
  pub read : read_request one ≡ read_request other
  pub rows : numbers_in one ≡ numbers_in other
  pub plan : by_answer (read_request one) (λ r. plan_of r (numbers_in one)) Err
      ≡ by_answer (read_request other) (λ r. plan_of r (numbers_in other)) Err
  pub text : plan_text one ≡ plan_text other

-- The characters begin with an `02` line, which would be one of the window's: "may stand for all `02` lines".
abbrev pub BeginsWithOffset : List ℕ → Type 0
BeginsWithOffset rest = take 2 rest ≡ digits_of (2 ∷ [])

-- Of every name of the list, on a grid of as many dimensions as its window has, whatever else stands on the first line and
-- behind the window.
abbrev pub ByName : Type 0
ByName =
    (name : ℕ) (first rest : List ℕ) → is_name name ≡ true → FirstLine (named_of name).dims first → (BeginsWithOffset rest → ⊥)
    → PlannedAlike (by_name name first rest) (written_out name first rest)
