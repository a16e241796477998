-- Each way through a call, by what the functions that it calls answered.
use Prim.Native.Nat.{ℕ, ◌≤◌, ◌<◌}
use mathlib.Core.Bool.{false}
use mathlib.Core.List.{List}
use mathlib.Core.Path.{◌≡◌, refl, sym, ◌∙◌, subst}
use lib.ListN.{length}
use borrow.Author.Tests.{lt-ltb, le-ltb}
use Rattle.model.specs.Answers.{verdict_of, verdict_number, first_of}
use Rattle.model.specs.Planning.{plan_of}
use Rattle.model_sheet.specs.Reading.{numbers_in, read_request, read_chain}
use Rattle.model_sheet.specs.Writing.{Written, write_of}
use Rattle.std.specs.Prelude.{Result, Ok, Err}
use Rattle.model.specs.declared.Chain.{Chain}
use Rattle.model.specs.declared.Request.{Request}
use Rattle.model.specs.declared.Refusal.{Refusal}
use Rattle.model.specs.declared.Refusal.TheVariants as refusal
use Rattle.zohmirka_words.specs.Words.{chain_into, row_places, rows_into}
use Rattle.zohmirka_reports.specs.declared.Report.{Report}
use Rattle.zohmirka_reports.specs.Reports.{sheet_report, report_of}
use Rattle.zohmirka_runs.specs.Runs.{Runs, run_value}
use Rattle.zohmirka.specs.Calls.{Sheets, written, plan_call, run_sheet, read_verdict, read_call}
use Rattle.zohmirka.proofs.FlatLaws.{write_flat, run_flat, plan_flat, planned_flat, rows_flat}

-- What was written is told by the answer.
pub sheet_written : (c : Chain) (rows sheet : List ℕ) (w : Result ℕ Refusal) (left : List ℕ) → ◌≡◌ {A = Written} (record { answer = w; output = left }) (write_of c rows sheet)
    → record { answer = sheet_report w; sheet = left } ≡ written c rows sheet
unfolding written
sheet_written c rows sheet w left f = rw (← f)

module _ (request sheet : List ℕ) where
  pub request_refused : (x : Refusal) → read_request request ≡ Err x → record { answer = sheet_report (Err x); sheet = sheet } ≡ plan_call request sheet
  unfolding plan_call
  request_refused x e = rw e

  module _ (r : Request) (e : read_request request ≡ Ok r) where
    pub plan_refused : (rows : List ℕ) (x : Refusal) → rows ≡ numbers_in request → plan_of r rows ≡ Err x
        → record { answer = sheet_report (Err x); sheet = sheet } ≡ plan_call request sheet
    unfolding plan_call
    plan_refused rows x b d = rw (e, ← b, d)

    pub plan_written : (rows : List ℕ) (c : Chain) (w : Result ℕ Refusal) (left : List ℕ) → rows ≡ numbers_in request → plan_of r rows ≡ Ok c
        → ◌≡◌ {A = Written} (record { answer = w; output = left }) (write_of c rows sheet) → record { answer = sheet_report w; sheet = left } ≡ plan_call request sheet
    unfolding plan_call
    plan_written rows c w left b d f = rw (e, ← b, d) (sheet_written c rows sheet w left f)

    -- On a rectangle, whatever is lent beside it.
    module _ (flat : r.grid.skewed ≡ false) (none : List ℕ) where
      pub flat_plan_refused : (x : Refusal) → plan_of r none ≡ Err x → record { answer = sheet_report (Err x); sheet = sheet } ≡ plan_call request sheet
      flat_plan_refused x d = plan_refused (numbers_in request) x refl (plan_flat r flat (numbers_in request) none ∙ d)

      pub flat_plan_written : (others : List ℕ) (c : Chain) (w : Result ℕ Refusal) (left : List ℕ) → plan_of r none ≡ Ok c → ◌≡◌ {A = Written} (record { answer = w; output = left }) (write_of c others sheet)
          → record { answer = sheet_report w; sheet = left } ≡ plan_call request sheet
      flat_plan_written others c w left d f =
          plan_written (numbers_in request) c w left refl (plan_flat r flat (numbers_in request) none ∙ d) (f ∙ write_flat c (planned_flat r flat none c d) others (numbers_in request) sheet)

module _ (state store cells out : List ℕ) (allowance : ℕ) where
  module _ (sheet : List ℕ) where
    pub sheet_refused : (x : Refusal) (r : Report) → read_chain sheet ≡ Err x → r ≡ report_of (Err x)
        → record { report = r; state = state; store = store; out = out } ≡ run_sheet state store cells out allowance sheet
    unfolding run_sheet
    sheet_refused x r e f = rw (e, f)

    pub sheet_run : (c : Chain) (rows : List ℕ) (ran : Runs) → read_chain sheet ≡ Ok c → rows ≡ numbers_in sheet
        → ran ≡ run_value state store cells out allowance c rows
        → ran ≡ run_sheet state store cells out allowance sheet
    unfolding run_sheet
    sheet_run c rows ran e b f = rw (e, ← b, f)

    -- On a rectangle, whatever is lent beside it.
    pub flat_sheet_run : (c : Chain) (none : List ℕ) (ran : Runs) → read_chain sheet ≡ Ok c → c.grid.skewed ≡ false
        → ran ≡ run_value state store cells out allowance c none
        → ran ≡ run_sheet state store cells out allowance sheet
    flat_sheet_run c none ran e flat f = sheet_run c (numbers_in sheet) ran e refl (f ∙ run_flat c flat none (numbers_in sheet) state store cells out allowance)

module _ (sheet chain rows : List ℕ) where
  pub read_refused : (x : Refusal) → read_chain sheet ≡ Err x → record { refusal = verdict_number (Err x); chain = chain; rows = rows } ≡ read_call sheet chain rows
  unfolding read_call read_verdict
  read_refused x e = rw e

  module _ (c : Chain) (e : read_chain sheet ≡ Ok c) where
    pub read_short : length chain < 212 → record { refusal = verdict_number (Err refusal.ShortOutput); chain = chain; rows = rows } ≡ read_call sheet chain rows
    unfolding read_call read_verdict first_of
    read_short h = rw (e, lt-ltb _ _ h)

    module _ (h : 212 ≤ length chain) (k : ℕ) (d : k ≡ row_places c.grid) where
      pub rows_short : length rows < k → record { refusal = verdict_number (Err refusal.ShortOutput); chain = chain; rows = rows } ≡ read_call sheet chain rows
      unfolding read_call read_verdict first_of
      rows_short g = rw (e, le-ltb _ _ h, ← d, lt-ltb _ _ g)

      pub read_written : (chain' told rows' : List ℕ) → k ≤ length rows → chain' ≡ chain_into c chain → told ≡ numbers_in sheet
          → rows' ≡ rows_into c.grid told rows → record { refusal = verdict_number (Ok tt); chain = chain'; rows = rows' } ≡ read_call sheet chain rows
      unfolding read_call read_verdict first_of chain_into rows_into
      read_written chain' told rows' g f b r = rw (e, f, r, ← b, ← d, le-ltb _ _ h, le-ltb _ _ g)

      -- Of a rectangle no rows are written.
      pub flat_read_written : (chain' : List ℕ) → k ≤ length rows → chain' ≡ chain_into c chain → c.grid.skewed ≡ false
          → record { refusal = verdict_number (Ok tt); chain = chain'; rows = rows } ≡ read_call sheet chain rows
      flat_read_written chain' g f flat = read_written chain' (numbers_in sheet) rows g f refl (rows_flat c.grid flat (numbers_in sheet) rows)
