-- Sheets round-trip (document 01, "Lines of the sheet"): what is promised of writing and reading together.
use Rattle.std.specs.Prelude.{ℕ, ◌*◌, ◌≤◌, ◌<◌, true, List, ◌++◌, ◌≡◌, T, pos, length, get_or, take, drop, Ok}
use Rattle.std.specs.Float.Ieee.{fits}
use Rattle.std.specs.Float.{binary32}
use Rattle.std.specs.Int.Signed.{mag}
use Rattle.model.specs.declared.Chain.{Chain}
use Rattle.model.specs.declared.Kernel.{Kernel}
use Rattle.model.specs.declared.Kernel.TheVariants as kernel
use Rattle.model.specs.Values.{trimmed, Same, chain_of}
use Rattle.model.specs.Judging.{judge_chain}
use Rattle.model_sheet.specs.Reading.{read_chain, numbers_in}
use Rattle.model_sheet.specs.Writing.{sheet_of, write_of}

-- What the machine's types give of a chain's value: sizes and capacities of 32 bits, entries of 16 bits and indices of 32
-- bits in two's complement, factors that binary32 holds.
unfoldable pub FactorsFit : Kernel → Type 0
FactorsFit kernel.Raw = Unit
FactorsFit kernel.Difference = Unit
FactorsFit (kernel.Scaled f) = T (fits binary32 f)
FactorsFit (kernel.Blend g) = T (fits binary32 g.a) × T (fits binary32 g.b)

pub record InRange (c : Chain) : Type 0 where
  pub sizes : (d : ℕ) → get_or c.grid.sizes d 0 < 4294967296
  pub entries : (i : ℕ) → mag (get_or c.window.offsets i (pos 0)) < 32768
  pub lowest : (d : ℕ) → mag (get_or c.bounds.lowest d (pos 0)) < 2147483648
  pub highest : (d : ℕ) → mag (get_or c.bounds.highest d (pos 0)) < 2147483648
  pub capacities : (k : ℕ) → get_or c.capacities k 0 < 4294967296
  pub factors : FactorsFit c.kernel

-- A sheet tells of a chain and the rows beside it: it is accepted, and what is read from it is the same chain, in its normal
-- form, with each number of its rows.
pub record Tells (sheet : List ℕ) (c : Chain) (rows : List ℕ) : Type 0 where
  pub read : read_chain sheet ≡ Ok (chain_of (trimmed c rows))
  pub same : Same (chain_of (trimmed c rows)) (numbers_in sheet) c rows
  pub lent : c.grid.skewed ≡ true → (i : ℕ) → i < 2 * c.grid.rows → get_or (numbers_in sheet) i 0 ≡ get_or rows i 0

-- So does the sheet that is written of a chain that no number turns back.
abbrev pub WriteRead : Type 0
WriteRead = (c : Chain) (rows : List ℕ) → InRange c → judge_chain c rows ≡ Ok tt → Tells (sheet_of c rows) c rows

-- An accepted chain sheet, read and written, gives back its bytes.
abbrev pub ReadWrite : Type 0
ReadWrite = (sheet : List ℕ) (c : Chain) → read_chain sheet ≡ Ok c → sheet_of c (numbers_in sheet) ≡ sheet

-- The same of the calls. What `write_chain` wrote `read_chain` accepts and reads as the same chain; an accepted sheet that
-- was read is written as the same bytes.
abbrev pub WriteReadCalls : Type 0
WriteReadCalls =
    (c : Chain) (rows : List ℕ) → InRange c → (out : List ℕ) (bytes : ℕ) → (write_of c rows out).answer ≡ Ok bytes
    → Tells (take bytes (write_of c rows out).output) c rows

abbrev pub ReadWriteCalls : Type 0
ReadWriteCalls =
    (sheet out : List ℕ) (c : Chain) → read_chain sheet ≡ Ok c → length sheet ≤ length out
    → write_of c (numbers_in sheet) out ≡ record { answer = Ok (length sheet); output = sheet ++ drop (length sheet) out }
