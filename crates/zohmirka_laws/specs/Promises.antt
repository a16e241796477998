-- What is promised of the calls beside what each answers.
use Rattle.std.specs.Prelude.{ℕ, ◌≤◌, ◌<◌, false, List, ◌≡◌, length, Ok}
use Rattle.model.specs.Values.{trimmed}
use Rattle.model_sheet.specs.Frames.{row_numbers}
use Rattle.model.specs.Judging.{judge_chain}
use Rattle.model_sheet.specs.Reading.{numbers_in, read_request, read_chain}
use Rattle.model_run.specs.Running.{short_store, width_of}
use Rattle.model_sheet.specs.Writing.{longest_sheet}
use Rattle.model.specs.declared.Chain.{Chain}
use Rattle.model.specs.declared.Request.{Request}
use Rattle.zohmirka_words.specs.Words.{word_at, state_size, chain_size, chain_in, row_places}
use Rattle.zohmirka_runs.specs.Runs.{Runs}
use Rattle.zohmirka.specs.Calls.{plan_call, judge_call, read_call, run_sheet, run_chain, judge_chain_call, write_call}

-- "buffers untouched on refusal": a call that answers a number left every slice as it was, and counts nothing.
abbrev pub PlanRefused : Type 0
PlanRefused =
    (request sheet : List ℕ) → ((plan_call request sheet).answer.refusal ≡ 0 → ⊥)
    → ((plan_call request sheet).sheet ≡ sheet) × ((plan_call request sheet).answer.bytes ≡ 0)

abbrev pub WriteRefused : Type 0
WriteRefused =
    (chain rows sheet : List ℕ) → ((write_call chain rows sheet).answer.refusal ≡ 0 → ⊥)
    → ((write_call chain rows sheet).sheet ≡ sheet) × ((write_call chain rows sheet).answer.bytes ≡ 0)

abbrev pub ReadRefused : Type 0
ReadRefused =
    (sheet chain rows : List ℕ) → ((read_call sheet chain rows).refusal ≡ 0 → ⊥)
    → ((read_call sheet chain rows).chain ≡ chain) × ((read_call sheet chain rows).rows ≡ rows)

pub record Untouched (state store out : List ℕ) (ran : Runs) : Type 0 where
  pub state_stays : ran.state ≡ state
  pub store_stays : ran.store ≡ store
  pub out_stays : ran.out ≡ out
  pub refused : ran.report.outcome ≡ 5
  pub no_cells : ran.report.cells ≡ 0
  pub no_firings : ran.report.firings ≡ 0
  pub no_clocks : ran.report.clocks ≡ 0

module _ (P : List ℕ → Runs) where
  abbrev OfRun : (state store out : List ℕ) → Type 0
  OfRun state store out = (from : List ℕ) → ((P from).report.refusal ≡ 0 → ⊥) → Untouched state store out (P from)

abbrev pub RunRefused : Type 0
RunRefused =
    (state store cells out : List ℕ) (allowance : ℕ)
    → OfRun (run_sheet state store cells out allowance) state store out
    × ((rows : List ℕ) → OfRun (λ chain. run_chain state store cells out allowance chain rows) state store out)

-- A chain with its rows or a sheet that the judge call refuses is refused by the same number in every other call.
abbrev pub ChainRefused : Type 0
ChainRefused =
    (chain rows : List ℕ) → (judge_chain_call chain rows ≡ 0 → ⊥)
    → ((state store cells out : List ℕ) (allowance : ℕ)
    → (run_chain state store cells out allowance chain rows).report.refusal ≡ judge_chain_call chain rows)
    × ((sheet : List ℕ) → (write_call chain rows sheet).answer.refusal ≡ judge_chain_call chain rows)

abbrev pub SheetRefused : Type 0
SheetRefused =
    (sheet : List ℕ) → (judge_call sheet ≡ 0 → ⊥)
    → ((state store cells out : List ℕ) (allowance : ℕ)
    → (run_sheet state store cells out allowance sheet).report.refusal ≡ judge_call sheet)
    × ((chain rows : List ℕ) → (read_call sheet chain rows).refusal ≡ judge_call sheet)

-- On the words and the rows that reading a sheet wrote, a run call does what it does on that sheet.
abbrev pub SameRuns : Type 0
SameRuns =
    (sheet chain rows state store cells out : List ℕ) (allowance : ℕ) → (read_call sheet chain rows).refusal ≡ 0
    → run_chain state store cells out allowance (read_call sheet chain rows).chain (read_call sheet chain rows).rows
    ≡ run_sheet state store cells out allowance sheet

-- Of rows only as many numbers play a part as the words say, of a rectangle none.
abbrev pub RowsAlike : Type 0
RowsAlike =
    (chain rows others : List ℕ) → ((i : ℕ) → i < row_places (chain_in chain).grid → word_at rows i ≡ word_at others i)
    → (judge_chain_call chain rows ≡ judge_chain_call chain others)
    × ((state store cells out : List ℕ) (allowance : ℕ)
    → run_chain state store cells out allowance chain rows ≡ run_chain state store cells out allowance chain others)
    × ((sheet : List ℕ) → write_call chain rows sheet ≡ write_call chain others sheet)

-- Too few words of a state are refused in both run calls, by 11 where neither the chain nor the store is refused first. Too
-- few words of a chain are refused by 3, whatever is lent beside them.
abbrev pub ShortState : Type 0
ShortState =
    (state store cells out : List ℕ) (allowance : ℕ) → length state < state_size
    → ((chain rows : List ℕ) → (run_chain state store cells out allowance chain rows).report.refusal ≡ 0 → ⊥)
    × ((sheet : List ℕ) → (run_sheet state store cells out allowance sheet).report.refusal ≡ 0 → ⊥)

abbrev pub ShortStateBy11 : Type 0
ShortStateBy11 =
    (state store cells out : List ℕ) (allowance : ℕ) → length state < state_size
    → ((chain rows : List ℕ) → judge_chain_call chain rows ≡ 0 → short_store (trimmed (chain_in chain) rows) store ≡ false
    → (run_chain state store cells out allowance chain rows).report.refusal ≡ 11)
    × ((sheet : List ℕ) (c : Chain) → read_chain sheet ≡ Ok c → short_store (trimmed c (numbers_in sheet)) store ≡ false
    → (run_sheet state store cells out allowance sheet).report.refusal ≡ 11)

abbrev pub ShortChain : Type 0
ShortChain =
    (state store cells out : List ℕ) (allowance : ℕ) (chain rows : List ℕ) → length chain < chain_size
    → (run_chain state store cells out allowance chain rows).report.refusal ≡ 3

abbrev pub ShortChainJudged : Type 0
ShortChainJudged = (chain rows : List ℕ) → length chain < chain_size → judge_chain_call chain rows ≡ 3

-- The sizes of the C header are enough: in `ZOHMIRKA_SHEET_BYTES` every accepted request is planned and every accepted chain
-- is written, into `ZOHMIRKA_CHAIN_WORDS` and `ZOHMIRKA_ROW_NUMBERS` every accepted sheet is read, with
-- `ZOHMIRKA_STORE_WORDS` no run is refused by 10, and no firing of an accepted chain writes more than
-- `ZOHMIRKA_FIRING_WORDS`.
abbrev pub LongSheet : Type 0
LongSheet = (request sheet : List ℕ) (r : Request) → read_request request ≡ Ok r → longest_sheet ≤ length sheet
    → (plan_call request sheet).answer.refusal ≡ 0

abbrev pub LongSheetOfChain : Type 0
LongSheetOfChain = (chain rows sheet : List ℕ) → judge_chain_call chain rows ≡ 0 → longest_sheet ≤ length sheet
    → (write_call chain rows sheet).answer.refusal ≡ 0

abbrev pub LongRows : Type 0
LongRows = (sheet chain rows : List ℕ) → judge_call sheet ≡ 0 → chain_size ≤ length chain → row_numbers ≤ length rows
    → (read_call sheet chain rows).refusal ≡ 0

abbrev pub FewRows : Type 0
FewRows = (chain rows : List ℕ) → judge_chain_call chain rows ≡ 0 → row_places (chain_in chain).grid ≤ row_numbers

abbrev pub LongStore : Type 0
LongStore =
    (state store cells out : List ℕ) (allowance : ℕ) (chain rows : List ℕ) → 16384 ≤ length store
    → (run_chain state store cells out allowance chain rows).report.refusal ≡ 10 → ⊥

abbrev pub LongStoreOfSheet : Type 0
LongStoreOfSheet =
    (state store cells out : List ℕ) (allowance : ℕ) (sheet : List ℕ) → 16384 ≤ length store
    → (run_sheet state store cells out allowance sheet).report.refusal ≡ 10 → ⊥

abbrev pub FewWords : Type 0
FewWords = (c : Chain) (rows : List ℕ) → judge_chain c rows ≡ Ok tt → width_of (trimmed c rows) ≤ 32
