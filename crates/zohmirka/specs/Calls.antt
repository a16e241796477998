-- What the functions for C and Rust answer, and what they leave in the slices that they are lent.
use Rattle.std.specs.Prelude.{ℕ, List, [], ◌∷◌, ltb, length, Err}
use Rattle.std.specs.Result.{result_unwrap_or}
use Rattle.model.specs.Answers.{Verdict, verdict_of, verdict_number, check, first_of, by_verdict, by_answer}
use Rattle.model.specs.Judging.{judge_chain}
use Rattle.model.specs.Planning.{plan_of}
use Rattle.model_sheet.specs.Reading.{numbers_in, read_request, read_chain}
use Rattle.model_sheet.specs.Writing.{write_of}
use Rattle.model.specs.Values.{blank_chain}
use Rattle.model.specs.declared.Chain.{Chain}
use Rattle.model.specs.declared.Refusal.{Refusal}
use Rattle.model.specs.declared.Refusal.TheVariants as refusal
use Rattle.model.specs.declared.Request.{Request}
use Rattle.zohmirka_words.specs.Words.{chain_in, chain_size, chain_words, row_places, row_words, laid}
use Rattle.zohmirka_reports.specs.declared.Sheet.{Sheet}
use Rattle.zohmirka_reports.specs.Reports.{sheet_report, report_of}
use Rattle.zohmirka_runs.specs.Runs.{Runs, run_value}

abbrev pub version : ℕ
version = 5

-- Writing the sheet of a chain and its rows: 3 to 9, 14, 15 and 16 of the chain, then 12.
pub record Sheets : Type 0 where
  pub answer : Sheet
  pub sheet : List ℕ

unfoldable pub written : Chain → (rows sheet : List ℕ) → Sheets
written c rows sheet =
    let wrote = write_of c rows sheet in
    record { answer = sheet_report wrote.answer; sheet = wrote.output }

-- Planning a request sheet into a chain sheet: 1 to 9, 13, 15 and 16 of the request first.
unfoldable pub plan_call : (request sheet : List ℕ) → Sheets
plan_call request sheet =
    let rows = numbers_in request in
    let refused : Refusal → Sheets = λ x. record { answer = sheet_report (Err x); sheet = sheet } in
    let wrote : Request → Sheets = λ r. by_answer (plan_of r rows) (λ c. written c rows sheet) refused in
    by_answer (read_request request) wrote refused

-- Judging a chain sheet.
abbrev pub judge_call : (sheet : List ℕ) → ℕ
judge_call sheet = verdict_number (verdict_of (read_chain sheet))

module _ (state store cells out : List ℕ) (allowance : ℕ) where
  -- A run call on the chain of a sheet: 1 to 9, 14, 15 and 16 of the sheet first.
  unfoldable pub run_sheet : (sheet : List ℕ) → Runs
  run_sheet sheet =
      by_answer (read_chain sheet) (λ c. run_value state store cells out allowance c (numbers_in sheet))
      (λ x. record { report = report_of (Err x); state = state; store = store; out = out })

  -- A call on a chain given by its words, and the rows lent beside it.
  abbrev pub run_chain : (chain rows : List ℕ) → Runs
  run_chain chain rows = run_value state store cells out allowance (chain_in chain) rows

-- Reading a chain sheet into the words of its chain and the numbers of its rows: 1 to 9, 14, 15 and 16 of the sheet, then 12.
pub record Reads : Type 0 where
  pub refusal : ℕ
  pub chain : List ℕ
  pub rows : List ℕ

unfoldable pub read_verdict : (sheet : List ℕ) (room places : ℕ) → Verdict
read_verdict sheet room places =
    let last : Chain → Verdict = λ c. first_of
    (check (ltb room chain_size) refusal.ShortOutput
    ∷ check (ltb places (row_places c.grid)) refusal.ShortOutput
    ∷ []) in
    by_answer (read_chain sheet) last Err

unfoldable pub read_call : (sheet chain rows : List ℕ) → Reads
read_call sheet chain rows =
    let v = read_verdict sheet (length chain) (length rows) in
    let c = result_unwrap_or (read_chain sheet) blank_chain in
    record {
      refusal = verdict_number v;
      chain = by_verdict v (laid (chain_words c) chain) (λ x. chain);
      rows = by_verdict v (laid (row_words c.grid (numbers_in sheet)) rows) (λ x. rows);
    }

-- Judging a chain given by its words and the rows lent beside it, and writing its sheet.
abbrev pub judge_chain_call : (chain rows : List ℕ) → ℕ
judge_chain_call chain rows = verdict_number (judge_chain (chain_in chain) rows)

abbrev pub write_call : (chain rows sheet : List ℕ) → Sheets
write_call chain rows sheet = written (chain_in chain) rows sheet
