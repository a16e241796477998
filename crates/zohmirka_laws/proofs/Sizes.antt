-- The sizes that the C header names are enough (specs/Promises).
use Prim.Native.Nat.{ℕ, ◌≤◌}
use mathlib.Core.Bool.{Bool, true, false, cond}
use mathlib.Core.List.{List, [], ◌∷◌}
use mathlib.Core.Path.{◌≡◌, refl, sym, subst}
use native.Mathlib.Omega.{arith}
use lib.Dec.{ltb}
use lib.ListN.{length}
use borrow.Author.Tests.{le-ltb}
use Rattle.model.specs.Answers.{Verdict, Check, first_of, by_verdict, verdict_of, number_of, verdict_number, answer_number}
use Rattle.model.specs.Lists.{sum}
use Rattle.model_run.specs.Kernels.{width}
use Rattle.model.specs.Grounds.{Ground}
use Rattle.model.specs.Grounds.Ground.{rectangle, skewed}
use Rattle.model.specs.Values.{trimmed}
use Rattle.model.specs.Judging.{ground_refusal, window_checks, kernel_checks, chain_checks, value_checks, judged, judge_chain}
use Rattle.model.specs.Planning.{planned_chain}
use Rattle.model_sheet.specs.Frames.{seen_of}
use Rattle.model_sheet.specs.Lines.{Line, lines_of}
use Rattle.model_sheet.specs.Reading.{line_checks, line_verdict, step_of, start, complete, read_lines, end_verdict, numbers_in, read_chain}
use Rattle.model_sheet.specs.Writing.{sheet_of, longest_sheet, write_verdict, write_of}
use Rattle.model_run.specs.Running.{layout, counters_of, short_store, bad_state, width_of}
use Rattle.model.specs.declared.Chain.{Chain}
use Rattle.model.specs.declared.Kernel.{Kernel}
use Rattle.model.specs.declared.Kernel.TheVariants as kernel
use Rattle.model.specs.declared.LineStep.{LineStep}
use Rattle.model.specs.declared.Reading.{Reading}
use Rattle.model.specs.declared.Refusal.TheVariants as refusal
use Rattle.model.specs.declared.Refusal.{Refusal}
use Rattle.std.specs.Prelude.{Result, Ok, Err}
use Rattle.grid_laws.proofs.CheckLaws.{verdict_back}
use Rattle.grid_laws.proofs.StepLaws.{plan_taken}
use Rattle.run_laws.proofs.Accepts as accepts
use Rattle.run_laws.proofs.Plans.{plan_accepted}
use Rattle.sheet_laws.proofs.AcceptedChains.{few_rows, accepted_chain}
use Rattle.sheet_laws.proofs.SheetLength.{sheet_length}
use Rattle.sheet_laws.proofs.Cases.{by_bool}
use Rattle.sheet_trips.proofs.AcceptedSheets.{accepted_request}
use Rattle.sheet_trips.proofs.Calls.{read_judged}
use Rattle.runner.proofs.RunLaws as run
use Rattle.zohmirka_words.specs.Words.{state_in, chain_size, chain_in, row_places}
use Rattle.zohmirka_reports.specs.Reports.{report_of}
use Rattle.zohmirka_runs.specs.Runs.{run_value}
use Rattle.zohmirka.specs.Calls.{written, plan_call, run_sheet, read_verdict, read_call}
use Rattle.zohmirka_laws.specs.Promises.{LongSheet, LongSheetOfChain, LongRows, FewRows, LongStore, LongStoreOfSheet, FewWords}
use Rattle.zohmirka_laws.proofs.LentRows.{places_skewed, places_flat}
use Rattle.zohmirka_laws.proofs.Promised.{unnumbered, read_accepted}

-- ---- The longest sheet

room_enough : (c : Chain) (rows : List ℕ) (room : ℕ) → judge_chain c rows ≡ Ok tt → longest_sheet ≤ room → write_verdict c rows room ≡ Ok tt
unfolding write_verdict first_of
room_enough c rows room e h =
    let l : ltb room (length (sheet_of c rows)) ≡ false = le-ltb room (length (sheet_of c rows)) (omega (arith, sheet_length c rows (accepted_chain c rows e))) in
    rw (e, l)

pub long_sheet : LongSheet
unfolding plan_call written write_of verdict_number
long_sheet request sheet r e h =
    let rows = numbers_in request in
    let ok = accepted_request request r e in
    rw (e, plan_taken r rows ok, room_enough (planned_chain r rows) rows (length sheet) (plan_accepted r rows ok) h)

pub long_sheet_of_chain : LongSheetOfChain
unfolding written write_of verdict_number
long_sheet_of_chain chain lent sheet e h = rw (room_enough (chain_in chain) lent (length sheet) (unnumbered (judge_chain (chain_in chain) lent) e) h)

-- ---- 1,024 numbers of rows

few_places : (c : Chain) (rows : List ℕ) → judge_chain c rows ≡ Ok tt → row_places c.grid ≤ 1024
few_places c rows e =
    by_bool c.grid.skewed
    (λ k. omega (arith, places_skewed c.grid k, few_rows c.grid.rows rows ((accepted_chain c rows e).good_rows k)))
    (λ k. omega (arith, places_flat c.grid k))

pub few_row_numbers : FewRows
few_row_numbers chain lent e = few_places (chain_in chain) lent (unnumbered (judge_chain (chain_in chain) lent) e)

pub long_rows : LongRows
unfolding read_call read_verdict verdict_number first_of
long_rows sheet chain lent e long enough =
    let f = read_accepted sheet e in
    let n : row_places f.0.grid ≤ length lent = omega (arith, few_places f.0 (numbers_in sheet) (read_judged sheet f.0 f.1)) in
    rw (f.1, le-ltb (length chain) chain_size long, le-ltb (length lent) (row_places f.0.grid) n)

-- ---- 16,384 words of store

-- Any number but 10.
abbrev Other : ℕ → Type 0
Other n = n ≡ 10 → ⊥

abbrev Others : List Check → Type 0
Others [] = Unit {0}
Others (c ∷ cs) = Other (number_of c.refusal) × Others cs

first_other : (cs : List Check) → Others cs → Other (verdict_number (first_of cs))
unfolding first_of verdict_number
first_other [] b = λ e. omega arith
first_other (c ∷ cs) b = go c.holds (first_other cs b.1)
  where
    go : (x : Bool) → Other (verdict_number (first_of cs)) → Other (verdict_number (cond x (Err c.refusal) (first_of cs)))
    go true ih = b.0
    go false ih = ih

-- A grid is not judged by it,
ground_other : (g : Ground) → Other (number_of (ground_refusal g))
unfolding number_of
ground_other (rectangle sizes) = λ e. omega arith
ground_other (skewed rs) = λ e. omega arith

-- nor is a chain,
judged_other : (c : Chain) (rows : List ℕ) → Other (verdict_number (judge_chain c rows))
unfolding judge_chain judged window_checks kernel_checks chain_checks value_checks number_of
judged_other c rows =
    first_other (value_checks (trimmed c rows))
    (ground_other (trimmed c rows).the_ground, (λ e. omega arith, (λ e. omega arith, (λ e. omega arith, (λ e. omega arith, (λ e. omega arith, (λ e. omega arith, (λ e. omega arith, (λ e. omega arith, tt)))))))))

-- nor is a sheet.
lines_other : (rows : List ℕ) (ls : List Line) (r : Reading) → Other (verdict_number (read_lines true rows r ls).verdict)
unfolding read_lines step_of line_verdict line_checks number_of verdict_number
lines_other rows [] r = λ e. omega arith
lines_other rows (l ∷ ls) r = go s.verdict first (lines_other rows ls s.reading)
  where
    s : LineStep
    s = step_of true rows r (seen_of l.ended l.chars)

    first : Other (verdict_number s.verdict)
    first =
        first_other (line_checks true rows r (seen_of l.ended l.chars))
        (λ e. omega arith, (λ e. omega arith, (λ e. omega arith, (λ e. omega arith, (λ e. omega arith, (λ e. omega arith, (λ e. omega arith, (λ e. omega arith, (λ e. omega arith, tt)))))))))

    go : (v : Verdict) → Other (verdict_number s.verdict) → Other (verdict_number (read_lines true rows s.reading ls).verdict)
        → Other (verdict_number (by_verdict v (read_lines true rows s.reading ls) (λ x. s)).verdict)
    go (Ok _) a b = b
    go (Err x) a b = a

read_other : (sheet : List ℕ) → Other (verdict_number (verdict_of (read_chain sheet)))
unfolding read_chain end_verdict verdict_number number_of
read_other sheet =
    subst (λ (v : Verdict). Other (verdict_number v)) (sym (verdict_back (end_verdict s (judge_chain s.reading.chain (numbers_in sheet))) s.reading.chain))
    (go s.verdict (complete s.reading) (lines_other (numbers_in sheet) (lines_of sheet) start))
  where
    s : LineStep
    s = read_lines true (numbers_in sheet) start (lines_of sheet)

    go : (v : Verdict) (b : Bool) → Other (verdict_number v)
        → Other (verdict_number (by_verdict v (cond b (judge_chain s.reading.chain (numbers_in sheet)) (Err refusal.Misplaced)) Err))
    go (Ok _) true h = judged_other s.reading.chain (numbers_in sheet)
    go (Ok _) false h = λ e. omega arith
    go (Err x) b h = h

module _ (state store cells out : List ℕ) (allowance : ℕ) (long : 16384 ≤ length store) where
  value_long : (c : Chain) (rows : List ℕ) → (run_value state store cells out allowance c rows).report.refusal ≡ 10 → ⊥
  unfolding run_value report_of answer_number verdict_number number_of short_store
  value_long c rows h = go (judge_chain c rows) refl
    where
      ample : judge_chain c rows ≡ Ok tt → short_store (trimmed c rows) store ≡ false
      ample e = le-ltb (length store) (sum (trimmed c rows).capacities) (omega (arith, (accepts.accepted_chain c rows e).places))

      stated : judge_chain c rows ≡ Ok tt → (b : Bool) → bad_state (layout (trimmed c rows)) (counters_of c.window.count (state_in state)) ≡ b → ⊥
      stated e true d = let x = rw (← run.run_bad c rows (state_in state) store cells out allowance (accepts.accepted_chain c rows e) (ample e) d) at h in omega arith
      stated e false d = let x = rw (← run.run_ends c rows (state_in state) store cells out allowance (accepts.accepted_chain c rows e) (ample e) d) at h in omega arith

      go : (v : Verdict) → judge_chain c rows ≡ v → ⊥
      go (Ok _) e = stated e (bad_state (layout (trimmed c rows)) (counters_of c.window.count (state_in state))) refl
      go (Err x) e =
          let n : Other (number_of x) = rw e at (judged_other c rows) in
          n (rw (← run.run_refused c rows (state_in state) store cells out allowance x e) at h)

  sheet_long : (sheet : List ℕ) → (run_sheet state store cells out allowance sheet).report.refusal ≡ 10 → ⊥
  unfolding run_sheet report_of answer_number verdict_number
  sheet_long sheet h = go (read_chain sheet) refl
    where
      go : (a : Result Chain Refusal) → read_chain sheet ≡ a → ⊥
      go (Ok c) e = value_long c (numbers_in sheet) (rw e at h)
      go (Err x) e =
          let n : Other (number_of x) = rw e at (read_other sheet) in
          n (rw e at h)

pub long_store : LongStore
long_store state store cells out allowance chain lent long = value_long state store cells out allowance long (chain_in chain) lent

pub long_store_of_sheet : LongStoreOfSheet
long_store_of_sheet state store cells out allowance sheet long = sheet_long state store cells out allowance long sheet

-- ---- 32 words a firing

at_most : (k : Kernel) (n : ℕ) → n ≤ 32 → width k n ≤ 32
unfolding width
at_most kernel.Raw n h = h
at_most kernel.Difference n h = omega arith
at_most (kernel.Scaled f) n h = omega arith
at_most (kernel.Blend g) n h = omega arith

pub few_words : FewWords
unfolding width_of trimmed
few_words c rows e = at_most c.kernel c.window.count (accepts.accepted_chain c rows e).few
