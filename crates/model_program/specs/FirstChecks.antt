-- "a number is answered if its condition holds first, and never otherwise" (document 01, "Contracts and cases").
use Rattle.std.specs.Prelude.{ℕ, ◌<◌, Bool, true, false, not, cond, ◌≡◌, eqb, ltb, length, get_or, Ok}
use mathlib.Core.List.{List, [], ◌∷◌, ◌++◌, map, flat_map}
use Rattle.model.specs.Grounds.{Ground}
use Rattle.model.specs.Grounds.Ground.{rectangle, skewed}
use Rattle.model.specs.Values.{Trimmed, trimmed, ground_of, request_of}
use Rattle.model.specs.Answers.{Verdict, number_of, verdict_number, Check, check, first_of, verdict_of}
use Rattle.model.specs.Judging.{value_checks, judge_chain}
use Rattle.model.specs.Planning.{trimmed_request, judge_request}
use Rattle.model_run.specs.Running.{layout, counters_of, short_store, bad_state, judge_run}
use Rattle.model_sheet.specs.Lines.{Line, lines_of}
use Rattle.model_sheet.specs.Frames.{Seen, bytes_of, padded, seen_of}
use Rattle.model_sheet.specs.Reading.{kind_of, second_of, malformed, line_checks, line_verdict, taken, start, complete, numbers_in}
use Rattle.model_sheet.specs.Reading.{read_chain, read_request, cell_verdict}
use Rattle.model_sheet.specs.Writing.{sheet_of, write_verdict}
use Rattle.model.specs.declared.Chain.{Chain}
use Rattle.model.specs.declared.Reading.{Reading}
use Rattle.model.specs.declared.Refusal.TheVariants as refusal
use Rattle.model.specs.declared.Request.{Request}
use Rattle.model.specs.declared.State.{State}

-- Condition k holds, and none before it.
pub record HoldsFirst (conditions : List Bool) (k : ℕ) : Type 0 where
  pub holds : get_or conditions k false ≡ true
  pub none_before : (j : ℕ) → j < k → get_or conditions j false ≡ false

abbrev pub NoneHolds : List Bool → Type 0
NoneHolds conditions = (k : ℕ) → get_or conditions k false ≡ false

-- Conditions in an order, with their numbers: the verdict answers a number exactly if one of its conditions holds first, and
-- accepts exactly if none holds.
pub record AnswersFirst (rows : List ℕ) (conditions : List Bool) (v : Verdict) : Type 0 where
  pub if_first : (k : ℕ) → HoldsFirst conditions k → verdict_number v ≡ get_or rows k 0
  pub only_first : (x : ℕ) → 0 < x → verdict_number v ≡ x → (k : ℕ) × HoldsFirst conditions k × (get_or rows k 0 ≡ x)
  pub if_none : NoneHolds conditions → v ≡ Ok tt
  pub only_none : v ≡ Ok tt → NoneHolds conditions

-- The numbers and the conditions of checks.
unfoldable pub numbers_of : List Check → List ℕ
numbers_of cs = map (λ c. number_of c.refusal) cs

unfoldable pub conditions_of : List Check → List Bool
conditions_of cs = map (λ c. c.holds) cs

-- The conditions and the numbers of a value's checks.
unfoldable pub value_conditions : Trimmed → List Bool
value_conditions t = conditions_of (value_checks t)

-- "in a value 16 stands where 3 does"
abbrev pub grid_number : Ground → ℕ
grid_number (rectangle sizes) = 3
grid_number (skewed rs) = 16

abbrev pub value_numbers : Ground → List ℕ
value_numbers g = grid_number g ∷ 4 ∷ 5 ∷ 6 ∷ 15 ∷ 7 ∷ 8 ∷ 9 ∷ 14 ∷ []

-- The checks of a sheet's lines from the top, each where the lines before it are taken; and what is read where all are.
unfoldable pub lines_checks : (chain_sheet : Bool) → (rows : List ℕ) → Reading → List Line → List Check
lines_checks chain_sheet rows r [] = []
lines_checks chain_sheet rows r (l ∷ ls) =
    let seen = seen_of l.ended l.chars in
    line_checks chain_sheet rows r seen ++ lines_checks chain_sheet rows (taken r seen.first) ls

unfoldable pub all_taken : Reading → List Line → Reading
all_taken r [] = r
all_taken r (l ∷ ls) = all_taken (taken r (padded (bytes_of l.chars))) ls

-- Of that the value that is judged, a chain or a request.
unfoldable pub value_read : (chain_sheet : Bool) → (sheet : List ℕ) → Trimmed
value_read chain_sheet sheet =
    let c = (all_taken start (lines_of sheet)).chain in
    cond chain_sheet (trimmed c (numbers_in sheet)) (trimmed_request (request_of c) (numbers_in sheet))

-- All checks of a sheet: of its lines, of a line missing at its end, of its value.
unfoldable pub sheet_checks : (chain_sheet : Bool) → (sheet : List ℕ) → List Check
sheet_checks chain_sheet sheet =
    lines_checks chain_sheet (numbers_in sheet) start (lines_of sheet)
    ++ (check (not (complete (all_taken start (lines_of sheet)))) refusal.Misplaced ∷ value_checks (value_read chain_sheet sheet))

-- A line's numbers: form 1, order 2, a bad count 3 (of rows 16), a wrong length 1, sizes 3, rows 16, a 33rd `02` line 4, a bad
-- name 13; and those of a sheet.
abbrev pub line_numbers : List ℕ
line_numbers = 1 ∷ 2 ∷ 3 ∷ 16 ∷ 1 ∷ 3 ∷ 16 ∷ 4 ∷ 13 ∷ []

unfoldable pub sheet_numbers : (chain_sheet : Bool) → (sheet : List ℕ) → List ℕ
sheet_numbers chain_sheet sheet =
    flat_map (λ _. line_numbers) (lines_of sheet) ++ (2 ∷ value_numbers (value_read chain_sheet sheet).the_ground)

pub record FirstChecks : Type 0 where
  pub checks : (cs : List Check) → AnswersFirst (numbers_of cs) (conditions_of cs) (first_of cs)
  -- "A chain or request handed over as a value is judged by 3 to 9, lowest first"; "14 .. after 9", "15 .. after 6"
  pub chain : (c : Chain) (rows : List ℕ)
      → AnswersFirst (value_numbers (ground_of c.grid rows)) (value_conditions (trimmed c rows)) (judge_chain c rows)
  pub request : (r : Request) (rows : List ℕ)
      → AnswersFirst (value_numbers (ground_of r.grid rows)) (value_conditions (trimmed_request r rows)) (judge_request r rows)
  -- "A run looks at the chain first, then 10, then 11."
  pub run : (t : Trimmed) (s : State) (store : List ℕ)
      → AnswersFirst (value_numbers t.the_ground ++ (10 ∷ 11 ∷ []))
      (value_conditions t ++ (short_store t store ∷ bad_state (layout t) (counters_of t.count s) ∷ []))
      (judge_run t s store)
  -- 12 is "looked at last".
  pub write : (c : Chain) (rows : List ℕ) (room : ℕ)
      → AnswersFirst (value_numbers (ground_of c.grid rows) ++ (12 ∷ []))
      (value_conditions (trimmed c rows) ++ (ltb room (length (sheet_of c rows)) ∷ [])) (write_verdict c rows room)
  -- A sheet's line; a whole sheet, "looked at from the top", its value behind its lines; and a line where a cell is wanted:
  -- 1, then 2.
  pub line : (chain_sheet : Bool) (rows : List ℕ) (r : Reading) (l : Seen)
      → AnswersFirst line_numbers (conditions_of (line_checks chain_sheet rows r l)) (line_verdict chain_sheet rows r l)
  pub chain_sheet : (sheet : List ℕ)
      → AnswersFirst (sheet_numbers true sheet) (conditions_of (sheet_checks true sheet)) (verdict_of (read_chain sheet))
  pub request_sheet : (sheet : List ℕ)
      → AnswersFirst (sheet_numbers false sheet) (conditions_of (sheet_checks false sheet)) (verdict_of (read_request sheet))
  pub cell : (l : Seen)
      → AnswersFirst (1 ∷ 2 ∷ []) (malformed l.sound l.len (kind_of l) (second_of l) ∷ not (eqb (kind_of l) 5) ∷ [])
      (cell_verdict l)
