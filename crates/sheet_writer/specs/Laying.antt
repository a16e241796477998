-- Writing a chain sheet without judging the chain: only 16 of a skewed grid and 3 and 4 of the counts are looked at, then 12.
use Rattle.std.specs.Prelude.{ℕ, ◌+◌, ◌≤◌, ◌<◌, true, false, ◌&&◌, List, [], ◌∷◌, ◌++◌, ◌≡◌, ltb, length, drop, Result, Ok, Err}
use Rattle.model.specs.declared.Chain.{Chain}
use Rattle.model.specs.declared.Grid.{Grid}
use Rattle.model.specs.declared.Refusal.{Refusal}
use Rattle.model.specs.declared.Refusal.TheVariants as refusal
use Rattle.model.specs.Answers.{Check, check, first_of, by_verdict}
use Rattle.model.specs.Values.{rows_of, dims_of}
use Rattle.model.specs.Judging.{bad_dims, bad_rows, bad_count}
use Rattle.model_sheet.specs.Writing.{Written, sheet_of}
use Rattle.sheet_laws.specs.declared.Part.{Part}
use Rattle.sheet_laws.specs.declared.Part.TheVariants as part

abbrev pub written : Result ℕ Refusal → List ℕ → Written
written answer output = record { answer = answer; output = output }

unfoldable pub lay_checks : Chain → (rows : List ℕ) → (room : ℕ) → List Check
lay_checks c rows room =
    check (c.grid.skewed && bad_rows (rows_of c.grid.rows rows)) refusal.BadRows
    ∷ check (bad_dims (dims_of c.grid)) refusal.BadGrid
    ∷ check (bad_count c.window.count) refusal.BadCount
    ∷ check (ltb room (length (sheet_of c rows))) refusal.ShortOutput
    ∷ []

-- The sheet from the first place on; later places, and after a refusal all places, stay as they were.
unfoldable pub lay_of : Chain → (rows : List ℕ) → List ℕ → Written
lay_of c rows output =
    let sheet = sheet_of c rows in
    by_verdict (first_of (lay_checks c rows (length output)))
    (written (Ok (length sheet)) (sheet ++ drop (length sheet) output))
    (λ r. written (Err r) output)

-- 16 lets the rows of a grid pass, where it is skewed.
abbrev pub RowsFit : Grid → (rows : List ℕ) → Type 0
RowsFit g rows = g.skewed ≡ true → bad_rows (rows_of g.rows rows) ≡ false

-- The counts are in order.
pub record Counted (c : Chain) : Type 0 where
  pub dims : dims_of c.grid ≤ 4
  pub few_rows : c.grid.skewed ≡ true → c.grid.rows ≤ 512
  pub some : 0 < c.window.count
  pub most : c.window.count ≤ 32

-- The sheet has so many characters, whatever the numbers of its rows are.
abbrev pub HasLength : Chain → ℕ → Type 0
HasLength c n = (rows : List ℕ) → n ≡ length (sheet_of c rows)

-- A sheet with n offsets has such a line.
unfoldable pub Inside : (n : ℕ) → Part → Type 0
Inside n (part.Offset k) = k < n
Inside n part.Box = Unit {0}
Inside n (part.Capacity k) = k + 1 < n
Inside n part.Order = Unit {0}
Inside n part.Kernel = Unit {0}
