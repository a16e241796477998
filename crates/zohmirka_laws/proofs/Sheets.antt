-- Sheets that one call wrote and another reads (specs/Sheets).
use Prim.Native.Nat.{ℕ, ◌≤◌, ◌<◌}
use mathlib.Core.Bool.{false}
use mathlib.Core.List.{List}
use mathlib.Core.Path.{◌≡◌, refl, sym, ◌∙◌, ap, ap₂}
use native.Mathlib.Omega.{arith}
use lib.ListN.{length}
use borrow.Author.Tests.{le-ltb}
use Rattle.model.specs.Answers.{verdict_of, verdict_number, first_of, by_answer}
use Rattle.model.specs.Values.{trimmed, chain_of, request_of}
use Rattle.model.specs.Judging.{judge_chain}
use Rattle.model_sheet.specs.Lines.{lines_of}
use Rattle.model.specs.Lists.{tabulate}
use Rattle.model.specs.Planning.{judge_request, planned_chain, plan_of}
use Rattle.model_sheet.specs.Reading.{start, read_lines, numbers_in, read_request, read_chain}
use Rattle.model_sheet.specs.Writing.{Written, write_of}
use Rattle.model.specs.declared.Chain.{Chain}
use Rattle.model.specs.declared.Refusal.{Refusal}
use Rattle.model.specs.declared.Request.{Request}
use Rattle.std.specs.Prelude.{Result, Ok, Err}
use Rattle.grid_laws.proofs.ChainLaws.{grid_normal}
use Rattle.grid_laws.proofs.CheckLaws.{answer_back}
use Rattle.grid_laws.proofs.StepLaws.{plan_taken}
use Rattle.sheet_laws.proofs.Cases.{by_bool}
use Rattle.sheet_trips.specs.RoundTrips.{InRange, Tells}
use Rattle.sheet_trips.proofs.AcceptedSheets.{accepted_request}
use Rattle.sheet_trips.proofs.Calls.{read_judged, write_read_calls, read_write_calls}
use Rattle.sheet_trips.proofs.Names.{by_its_name}
use Rattle.zohmirka_words.specs.Words.{word_at, laid, chain_size, chain_in, row_places, row_words}
use Rattle.zohmirka.specs.Calls.{Sheets, written, plan_call, judge_call, read_verdict, read_call, write_call}
use Rattle.zohmirka_reports.specs.Reports.{sheet_report}
use Rattle.zohmirka_laws.specs.Sheets.{bytes_of, PlanJudged, PlannedByName, ReadJudged, ReadWritten, Reread, WrittenRead}
use Rattle.zohmirka_laws.proofs.LentRows.{places_skewed, places_flat, Alike, words_alike, trimmed_alike, judged_alike}
use Rattle.zohmirka_laws.proofs.Promised.{numbered, written_alike, sheet_fine, words_read, rows_written, rows_read}
use Rattle.zohmirka_laws.proofs.ReadChains.{held_read}
use Rattle.zohmirka_laws.proofs.Ranges.{words_range, planned_range}

-- What a chain in range is read back as.
written_read_back : (c : Chain) (rows : List ℕ) → InRange c → (sheet : List ℕ) → (written c rows sheet).answer.refusal ≡ 0 → Tells (bytes_of (written c rows sheet)) c rows
unfolding written verdict_number
written_read_back c rows range sheet h = go (write_of c rows sheet).answer refl
  where
    go : (a : Result ℕ Refusal) → (write_of c rows sheet).answer ≡ a → Tells (bytes_of (written c rows sheet)) c rows
    go (Ok n) e = rw e (write_read_calls c rows range sheet n e)
    go (Err x) e = absurd (numbered x (rw e at h))

judged_again : (c : Chain) (rows : List ℕ) → InRange c → (sheet : List ℕ) → (written c rows sheet).answer.refusal ≡ 0
    → judge_call (bytes_of (written c rows sheet)) ≡ 0
unfolding verdict_number
judged_again c rows range sheet h = ap (λ (a : Result Chain Refusal). verdict_number (verdict_of a)) (written_read_back c rows range sheet h).read

-- ---- Plans

module _ (request : List ℕ) (r : Request) (e : read_request request ≡ Ok r) where
  abbrev read : Chain
  read = (read_lines false (numbers_in request) start (lines_of request)).reading.chain

  request_read : r ≡ request_of read
  unfolding read_request
  request_read = answer_back _ _ r e

  plan_range : InRange (planned_chain r (numbers_in request))
  plan_range =
      rw request_read
      (planned_range read (numbers_in request) (held_read false (numbers_in request) request)
      (ap (λ (q : Request). judge_request q (numbers_in request)) (sym request_read) ∙ accepted_request request r e))

pub plan_judged : PlanJudged
unfolding plan_call verdict_number
plan_judged request sheet h = go (read_request request) refl
  where
    go : (a : Result Request Refusal) → read_request request ≡ a → judge_call (bytes_of (plan_call request sheet)) ≡ 0
    go (Err x) e = absurd (numbered x (rw e at h))
    go (Ok r) e =
        let t = plan_taken r (numbers_in request) (accepted_request request r e) in
        rw (e, t) (judged_again (planned_chain r (numbers_in request)) (numbers_in request) (plan_range request r e) sheet (rw (e, t) at h))

pub planned_by_name : PlannedByName
unfolding plan_call
planned_by_name name first rest sheet h k n =
    let same = by_its_name name first rest h k n in
    ap₂ (λ (a : Result Request Refusal) (rows : List ℕ). let refused : Refusal → Sheets = λ x. record { answer = sheet_report (Err x); sheet = sheet } in
    by_answer a (λ r. by_answer (plan_of r rows) (λ c. written c rows sheet) refused) refused)
    same.read same.rows

-- ---- Chains as words

pub read_words_judged : ReadJudged
unfolding verdict_number
read_words_judged sheet chain rows h =
    let f = sheet_fine sheet chain rows h in
    let lent = (read_call sheet chain rows).rows in
    ap (λ (c : Chain). verdict_number (judge_chain c lent)) (words_read sheet chain rows h f.0 f.1)
    ∙ ap verdict_number (judged_alike f.0 lent (numbers_in sheet) (rows_read sheet chain rows h f.0 f.1) ∙ read_judged sheet f.0 f.1)

pub read_written : ReadWritten
unfolding written verdict_number
read_written sheet chain rows out h room =
    let f = sheet_fine sheet chain rows h in
    let lent = (read_call sheet chain rows).rows in
    ap (λ (c : Chain). written c lent out) (words_read sheet chain rows h f.0 f.1)
    ∙ written_alike f.0 lent (numbers_in sheet) (rows_read sheet chain rows h f.0 f.1) out
    ∙ ap (λ (w : Written). let s : Sheets = record { answer = sheet_report w.answer; sheet = w.output } in s)
    (read_write_calls sheet out f.0 f.1 room)

-- A grid's normal form has its rows.
normal_places : (c : Chain) (rows : List ℕ) → row_places (chain_of (trimmed c rows)).grid ≡ row_places c.grid
unfolding chain_of trimmed row_places
normal_places c rows =
    ap row_places (grid_normal c.grid rows)
    ∙ by_bool c.grid.skewed (λ e. rw e) (λ e. rw e)

module _ (chain rows sheet room places : List ℕ) (small : (i : ℕ) → word_at chain i < 4294967296) (h : (write_call chain rows sheet).answer.refusal ≡ 0) where
  abbrev c : Chain
  c = chain_in chain

  abbrev b : List ℕ
  b = bytes_of (write_call chain rows sheet)

  tells : Tells b c rows
  tells = written_read_back c rows (words_range chain small) sheet h

  -- The chain that is read back.
  abbrev d : Chain
  d = chain_of (trimmed c rows)

  -- Each number of the rows,
  numbers_back : Alike c.grid (numbers_in b) rows
  numbers_back i l =
      by_bool c.grid.skewed
      (λ e. tells.lent e i (rw (places_skewed c.grid e) at l))
      (λ e. absurd (omega (arith, l, places_flat c.grid e)))

  -- and the words of them.
  row_words_back : row_words d.grid (numbers_in b) ≡ row_words c.grid rows
  unfolding row_words
  row_words_back = ap (λ (n : ℕ). tabulate n (word_at (numbers_in b))) (normal_places c rows) ∙ words_alike c.grid (numbers_in b) rows numbers_back

  module _ (long : chain_size ≤ length room) (enough : row_places c.grid ≤ length places) where
    fine : read_verdict b (length room) (length places) ≡ Ok tt
    unfolding read_verdict first_of
    fine =
        rw (tells.read, normal_places c rows, le-ltb (length room) chain_size long, le-ltb (length places) (row_places c.grid) enough)

    read_again : (read_call b room places).refusal ≡ 0
    unfolding read_call verdict_number
    read_again = rw fine

    back : Reread chain rows sheet room places
    unfolding verdict_number
    back = record {
      judged = ap (λ (a : Result Chain Refusal). verdict_number (verdict_of a)) tells.read;
      read = read_again;
      same = words_read b room places read_again d tells.read;
      rows_same = rows_written b room places read_again d tells.read ∙ ap (λ (ws : List ℕ). laid ws places) row_words_back;
      whole = ap (λ (x : Chain). trimmed x (read_call b room places).rows) (words_read b room places read_again d tells.read)
          ∙ trimmed_alike d (read_call b room places).rows (numbers_in b) (rows_read b room places read_again d tells.read)
          ∙ tells.same;
    }

pub written_read : WrittenRead
written_read chain rows sheet room places small h long enough = back chain rows sheet room places small h long enough
