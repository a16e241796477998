-- Reading a sheet in fixed memory, as its characters arrive, in however many pieces (the definitions:
-- `model_sheet/specs/Arriving`).
use Rattle.std.specs.Prelude.{ℕ, Bool, List, ◌++◌, ◌≡◌, Ok}
use Rattle.model_sheet.specs.Lines.{lines_of}
use Rattle.model_sheet.specs.Reading.{start, read_lines, numbers_in}
use Rattle.model_sheet.specs.Arriving.{Arrived, opening, arrive, finished}

-- It gives what reading the sheet whole gives and, where no line is turned back, the numbers on its first line; and two
-- pieces are one.
pub record Arrives (chained : Bool) (sheet : List ℕ) : Type 0 where
  pub read : finished (arrive chained opening sheet).sheet ≡ read_lines chained (numbers_in sheet) start (lines_of sheet)
  pub rows : (read_lines chained (numbers_in sheet) start (lines_of sheet)).verdict ≡ Ok tt
      → (arrive chained opening sheet).rows ≡ numbers_in sheet

abbrev pub AsItArrives : Type 0
AsItArrives = (chained : Bool) (sheet : List ℕ) → Arrives chained sheet

abbrev pub InPieces : Type 0
InPieces = (chained : Bool) (a : Arrived) (xs ys : List ℕ) → arrive chained (arrive chained a xs) ys ≡ arrive chained a (xs ++ ys)
