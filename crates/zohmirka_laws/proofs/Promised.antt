-- The promises of specs/Promises.
use Prim.Native.Nat.{ℕ, ◌<◌}
use mathlib.Core.Bool.{Bool, true, false}
use mathlib.Core.List.{List}
use mathlib.Core.Path.{◌≡◌, refl, sym, ◌∙◌, ap, subst}
use native.Mathlib.Omega.{arith}
use lib.ListN.{length}
use borrow.Author.Tests.{lt-ltb}
use Rattle.model.specs.Answers.{Verdict, number_of, verdict_number, answer_number, answer_counts, first_of}
use Rattle.model.specs.Judging.{bad_dims, bad_grid, window_checks, value_checks, judged, judge_chain}
use Rattle.model.specs.Planning.{plan_of}
use Rattle.model_sheet.specs.Reading.{numbers_in, read_request, read_chain}
use Rattle.model_run.specs.Running.{judge_run, layout, counters_of, short_store, bad_state, run_of, run_trimmed}
use Rattle.model.specs.Values.{ground_of, dims_of, trimmed}
use Rattle.model_sheet.specs.Writing.{write_of, write_verdict}
use Rattle.model.specs.declared.Chain.{Chain}
use Rattle.model.specs.declared.Refusal.{Refusal}
use Rattle.model.specs.declared.Refusal.TheVariants as refusal
use Rattle.model.specs.declared.Request.{Request}
use Rattle.std.specs.Prelude.{Result, Ok, Err}
use Rattle.grid_laws.proofs.Iterations.{at_most_cells}
use Rattle.run_laws.proofs.Accepts as accepts
use Rattle.sheet_laws.proofs.AcceptedLines.{refused_accepted}
use Rattle.sheet_laws.proofs.AcceptedChains.{accepted_chain}
use Rattle.sheet_trips.proofs.AcceptedSheets.{accepted_read}
use Rattle.sheet_trips.proofs.Calls.{read_judged}
use Rattle.runner.proofs.RunLaws as run
use Rattle.zohmirka_words.specs.Words.{laid, state_in, chain_words, chain_in, row_words}
use Rattle.zohmirka_reports.specs.Reports.{case_of, report_of}
use Rattle.zohmirka_runs.specs.Runs.{state_left, run_value}
use Rattle.zohmirka.specs.Calls.{written, plan_call, judge_call, run_sheet, read_verdict, read_call}
use Rattle.zohmirka_laws.proofs.LentRows.{Alike, laid_alike, judged_alike, run_alike, write_alike}
use Rattle.zohmirka_laws.proofs.ReadChains.{Held, held_read}
use Rattle.zohmirka_laws.proofs.ThereAndBack.{chain_back}
use Rattle.zohmirka_laws.specs.Promises.{PlanRefused, WriteRefused, ReadRefused, Untouched, RunRefused, ChainRefused, SheetRefused, SameRuns, RowsAlike, ShortState, ShortStateBy11, ShortChain, ShortChainJudged}

-- Each refusal has a number.
pub numbered : (x : Refusal) → number_of x ≡ 0 → ⊥
unfolding number_of
numbered refusal.Malformed e = omega arith
numbered refusal.Misplaced e = omega arith
numbered refusal.BadGrid e = omega arith
numbered refusal.BadCount e = omega arith
numbered refusal.EqualOffsets e = omega arith
numbered refusal.NoIteration e = omega arith
numbered refusal.NoCentre e = omega arith
numbered refusal.BadFactor e = omega arith
numbered refusal.TooLarge e = omega arith
numbered refusal.ShortStore e = omega arith
numbered refusal.BadState e = omega arith
numbered refusal.ShortOutput e = omega arith
numbered refusal.BadName e = omega arith
numbered refusal.BadOrder e = omega arith
numbered refusal.BadBox e = omega arith
numbered refusal.BadRows e = omega arith

pub unnumbered : (v : Verdict) → verdict_number v ≡ 0 → v ≡ Ok tt
unfolding verdict_number
unnumbered (Ok _) e = refl
unnumbered (Err x) e = absurd (numbered x e)

module _ (c : Chain) (rows sheet : List ℕ) where
  value_unwritten : ((written c rows sheet).answer.refusal ≡ 0 → ⊥) → ((written c rows sheet).sheet ≡ sheet) × ((written c rows sheet).answer.bytes ≡ 0)
  unfolding written verdict_number write_of
  value_unwritten h = go (write_verdict c rows (length sheet)) refl
    where
      go : (v : Verdict) → write_verdict c rows (length sheet) ≡ v → ((written c rows sheet).sheet ≡ sheet) × ((written c rows sheet).answer.bytes ≡ 0)
      go (Ok _) e = absurd (h (rw e))
      go (Err x) e = rw e (refl, refl)

pub write_refused : WriteRefused
write_refused chain rows sheet h = value_unwritten (chain_in chain) rows sheet h

pub plan_refused : PlanRefused
unfolding plan_call
plan_refused request sheet h = go (read_request request) refl
  where
    planned : (r : Request) → read_request request ≡ Ok r → (a : Result Chain Refusal) → plan_of r (numbers_in request) ≡ a
        → ((plan_call request sheet).sheet ≡ sheet) × ((plan_call request sheet).answer.bytes ≡ 0)
    planned r e (Err x) d = rw (e, d) (refl, refl)
    planned r e (Ok c) d = rw (e, d) (value_unwritten c (numbers_in request) sheet (rw (e, d) at h))

    go : (a : Result Request Refusal) → read_request request ≡ a → ((plan_call request sheet).sheet ≡ sheet) × ((plan_call request sheet).answer.bytes ≡ 0)
    go (Err x) e = rw e (refl, refl)
    go (Ok r) e = planned r e (plan_of r (numbers_in request)) refl

pub read_refused : ReadRefused
unfolding read_call verdict_number
read_refused sheet chain rows h = go (read_verdict sheet (length chain) (length rows)) refl
  where
    go : (v : Verdict) → read_verdict sheet (length chain) (length rows) ≡ v → ((read_call sheet chain rows).chain ≡ chain) × ((read_call sheet chain rows).rows ≡ rows)
    go (Ok _) e = absurd (h (rw e))
    go (Err x) e = rw e (refl, refl)

module _ (state store cells out : List ℕ) (allowance : ℕ) where
  module _ (c : Chain) (rows : List ℕ) where
    value_refused : ((run_value state store cells out allowance c rows).report.refusal ≡ 0 → ⊥) → Untouched state store out (run_value state store cells out allowance c rows)
    unfolding run_value report_of state_left case_of answer_number answer_counts run_of run_trimmed
    value_refused h = go (judge_run (trimmed c rows) (state_in state) store) refl
      where
        go : (v : Verdict) → judge_run (trimmed c rows) (state_in state) store ≡ v → Untouched state store out (run_value state store cells out allowance c rows)
        go (Ok _) e = absurd (h (rw e))
        go (Err x) e = rw e
            (record { state_stays = refl; store_stays = refl; out_stays = refl; refused = refl; no_cells = refl; no_firings = refl; no_clocks = refl })

  on_sheet_refused : (sheet : List ℕ) → ((run_sheet state store cells out allowance sheet).report.refusal ≡ 0 → ⊥)
      → Untouched state store out (run_sheet state store cells out allowance sheet)
  unfolding run_sheet report_of case_of answer_number answer_counts
  on_sheet_refused sheet h = go (read_chain sheet) refl
    where
      go : (a : Result Chain Refusal) → read_chain sheet ≡ a → Untouched state store out (run_sheet state store cells out allowance sheet)
      go (Ok c) e = rw e (value_refused c (numbers_in sheet) (rw e at h))
      go (Err x) e = rw e
          (record { state_stays = refl; store_stays = refl; out_stays = refl; refused = refl; no_cells = refl; no_firings = refl; no_clocks = refl })

pub run_refused : RunRefused
run_refused state store cells out allowance =
    (on_sheet_refused state store cells out allowance, λ rows chain h. value_refused state store cells out allowance (chain_in chain) rows h)

pub chain_refused : ChainRefused
unfolding run_value report_of answer_number verdict_number written write_of write_verdict
chain_refused chain rows h = go (judge_chain (chain_in chain) rows) refl
  where
    c : Chain
    c = chain_in chain

    go : (v : Verdict) → judge_chain c rows ≡ v
        → ((state store cells out : List ℕ) (allowance : ℕ) → (run_value state store cells out allowance c rows).report.refusal ≡ verdict_number (judge_chain c rows))
        × ((sheet : List ℕ) → (written c rows sheet).answer.refusal ≡ verdict_number (judge_chain c rows))
    go (Ok _) e = absurd (h (rw e))
    go (Err x) e =
        (λ state store cells out allowance. rw (e, ← run.run_refused c rows (state_in state) store cells out allowance x e), λ sheet. rw e)

pub sheet_refused : SheetRefused
unfolding run_sheet report_of answer_number verdict_number read_call read_verdict
sheet_refused sheet h = go (read_chain sheet) refl
  where
    go : (a : Result Chain Refusal) → read_chain sheet ≡ a
        → ((state store cells out : List ℕ) (allowance : ℕ) → (run_sheet state store cells out allowance sheet).report.refusal ≡ judge_call sheet)
        × ((chain rows : List ℕ) → (read_call sheet chain rows).refusal ≡ judge_call sheet)
    go (Ok c) e = absurd (h (rw e))
    go (Err x) e = (λ state store cells out allowance. rw e, λ chain rows. rw e)

-- Rows of which the same numbers play a part.
module _ (c : Chain) (rows rows' : List ℕ) (h : Alike c.grid rows rows') where
  pub value_alike : (state store cells out : List ℕ) (allowance : ℕ) → run_value state store cells out allowance c rows ≡ run_value state store cells out allowance c rows'
  unfolding run_value
  value_alike state store cells out allowance = rw (run_alike c rows rows' h (state_in state) store cells out allowance)

  pub written_alike : (sheet : List ℕ) → written c rows sheet ≡ written c rows' sheet
  unfolding written
  written_alike sheet = rw (write_alike c rows rows' h sheet)

pub rows_alike : RowsAlike
rows_alike chain rows others h =
    let c = chain_in chain in
    (ap verdict_number (judged_alike c rows others h), value_alike c rows others h, written_alike c rows others h)

-- A sheet that the judge call accepts gives a chain,
pub read_accepted : (sheet : List ℕ) → judge_call sheet ≡ 0 → (c : Chain) × (read_chain sheet ≡ Ok c)
unfolding verdict_number
read_accepted sheet h = go (read_chain sheet) refl
  where
    go : (a : Result Chain Refusal) → read_chain sheet ≡ a → (c : Chain) × (read_chain sheet ≡ Ok c)
    go (Ok c) e = (c, e)
    go (Err x) e = absurd (numbered x (rw e at h))

-- and so does one that was read.
was_accepted : (sheet : List ℕ) (room places : ℕ) → read_verdict sheet room places ≡ Ok tt → (c : Chain) × (read_chain sheet ≡ Ok c)
unfolding read_verdict
was_accepted sheet room places h = go (read_chain sheet) refl
  where
    go : (a : Result Chain Refusal) → read_chain sheet ≡ a → (c : Chain) × (read_chain sheet ≡ Ok c)
    go (Ok c) e = (c, e)
    go (Err x) e = absurd (refused_accepted (rw e at h))

-- What reading wrote.
module _ (sheet chain rows : List ℕ) (v : read_verdict sheet (length chain) (length rows) ≡ Ok tt) (c : Chain) (e : read_chain sheet ≡ Ok c) where
  chain_laid : (read_call sheet chain rows).chain ≡ laid (chain_words c) chain
  unfolding read_call
  chain_laid = rw (v, e)

  rows_laid : (read_call sheet chain rows).rows ≡ laid (row_words c.grid (numbers_in sheet)) rows
  unfolding read_call
  rows_laid = rw (v, e)

-- The words that reading wrote are the chain's, and the rows its rows.
module _ (sheet chain rows : List ℕ) (h : (read_call sheet chain rows).refusal ≡ 0) where
  read_fine : read_verdict sheet (length chain) (length rows) ≡ Ok tt
  unfolding read_call
  read_fine = unnumbered (read_verdict sheet (length chain) (length rows)) h

  pub sheet_fine : (c : Chain) × (read_chain sheet ≡ Ok c)
  sheet_fine = was_accepted sheet (length chain) (length rows) read_fine

  module _ (c : Chain) (e : read_chain sheet ≡ Ok c) where
    pub words_read : chain_in (read_call sheet chain rows).chain ≡ c
    words_read =
        let a = accepted_chain c (numbers_in sheet) (read_judged sheet c e) in
        ap chain_in (chain_laid sheet chain rows read_fine c e)
        ∙ sym (chain_back c chain (subst Held (sym (accepted_read sheet c e)) (held_read true (numbers_in sheet) sheet)) a.few)

    pub rows_written : (read_call sheet chain rows).rows ≡ laid (row_words c.grid (numbers_in sheet)) rows
    rows_written = rows_laid sheet chain rows read_fine c e

    pub rows_read : Alike c.grid (read_call sheet chain rows).rows (numbers_in sheet)
    rows_read = rw rows_written (laid_alike c.grid (numbers_in sheet) rows)

pub same_runs : SameRuns
unfolding run_sheet
same_runs sheet chain rows state store cells out allowance h =
    let f = sheet_fine sheet chain rows h in
    rw (words_read sheet chain rows h f.0 f.1, f.1) (value_alike f.0 _ _ (rows_read sheet chain rows h f.0 f.1) state store cells out allowance)

-- A chain that is accepted has fewer iterations than the firings that too few words are taken for.
few_iterations : (c : Chain) (rows : List ℕ) → judge_chain c rows ≡ Ok tt → (layout (trimmed c rows)).iterations < 4294967295
unfolding layout
few_iterations c rows e =
    let a = accepts.accepted_chain c rows e in
    omega (arith, a.cells, at_most_cells (trimmed c rows) (accepts.fitting_of (trimmed c rows) (accepts.trimmed_proper c rows) a))

module _ (state store cells out : List ℕ) (allowance : ℕ) (short : length state < 33) where
  module _ (c : Chain) (rows : List ℕ) where
    module _ (e : judge_chain c rows ≡ Ok tt) (long : short_store (trimmed c rows) store ≡ false) where
      lost : bad_state (layout (trimmed c rows)) (counters_of c.window.count (state_in state)) ≡ true
      unfolding state_in bad_state counters_of
      lost = rw (lt-ltb _ _ short, lt-ltb _ _ (few_iterations c rows e))

      value_by_11 : (run_value state store cells out allowance c rows).report.refusal ≡ 11
      unfolding run_value report_of answer_number number_of
      value_by_11 = rw (← run.run_bad c rows (state_in state) store cells out allowance (accepts.accepted_chain c rows e) long lost)

    value_short : (run_value state store cells out allowance c rows).report.refusal ≡ 0 → ⊥
    unfolding run_value report_of answer_number
    value_short h = go (judge_chain c rows) refl
      where
        stored : judge_chain c rows ≡ Ok tt → (b : Bool) → short_store (trimmed c rows) store ≡ b → ⊥
        stored e true d = numbered refusal.ShortStore (rw (← run.run_short c rows (state_in state) store cells out allowance (accepts.accepted_chain c rows e) d) at h)
        stored e false d = let x = value_by_11 e d in omega arith

        go : (v : Verdict) → judge_chain c rows ≡ v → ⊥
        go (Ok _) e = stored e (short_store (trimmed c rows) store) refl
        go (Err x) e = numbered x (rw (← run.run_refused c rows (state_in state) store cells out allowance x e) at h)

  sheet_short : (sheet : List ℕ) → (run_sheet state store cells out allowance sheet).report.refusal ≡ 0 → ⊥
  unfolding run_sheet report_of answer_number
  sheet_short sheet h = go (read_chain sheet) refl
    where
      go : (a : Result Chain Refusal) → read_chain sheet ≡ a → ⊥
      go (Ok c) e = value_short c (numbers_in sheet) (rw e at h)
      go (Err x) e = numbered x (rw e at h)

pub short_state : ShortState
short_state state store cells out allowance short =
    (λ chain rows. value_short state store cells out allowance short (chain_in chain) rows, sheet_short state store cells out allowance short)

pub short_state_by_11 : ShortStateBy11
unfolding run_sheet
short_state_by_11 state store cells out allowance short = (
  λ chain rows h. value_by_11 state store cells out allowance short (chain_in chain) rows (unnumbered (judge_chain (chain_in chain) rows) h),
  λ sheet c e long. rw e (value_by_11 state store cells out allowance short c (numbers_in sheet) (read_judged sheet c e) long),
)

-- Too few words of a chain are the blank chain.
pub short_chain_judged : ShortChainJudged
unfolding chain_in judge_chain judged window_checks value_checks bad_grid bad_dims first_of trimmed ground_of dims_of verdict_number number_of
short_chain_judged chain rows short = rw (lt-ltb _ _ short)

pub short_chain : ShortChain
short_chain state store cells out allowance chain rows short =
    let three = short_chain_judged chain rows short in
    (chain_refused chain rows (λ e. omega arith)).0 state store cells out allowance ∙ three
