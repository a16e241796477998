-- The cells that are taken from a block, from place `at` on.
use Rattle.std.specs.Prelude.{ℕ, ◌+◌, List, ◌++◌, length, drop}
use Rattle.model.specs.declared.CellLine.{CellLine}
use Rattle.model_sheet.specs.Arriving.{read_cells}
use Rattle.program_cells.specs.declared.CellsTaken.{CellsTaken}

-- All that taking cells leaves: its answer, and the places that it was lent.
pub record Took : Type 0 where
  pub answer : CellsTaken
  pub cells : List ℕ

abbrev pub took : CellsTaken → List ℕ → Took
took answer cells = record { answer = answer; cells = cells }

-- The cells from the first place on; later places stay as they were.
unfoldable pub cells_taken : CellLine → (block : List ℕ) → (at : ℕ) → (cells : List ℕ) → Took
cells_taken l block at cells =
    let r = read_cells (length cells) l (drop at block) in
    took (record { line = r.line; at = at + r.looked; count = length r.cells }) (r.cells ++ drop (length r.cells) cells)
