-- A list of run calls is one that demands 2 and 3 speak of (specs/CallLists).
use Prim.Native.Nat.{ℕ, zero, suc, ◌+◌, ◌≤◌, ◌<◌}
use mathlib.Core.List.{List, [], ◌∷◌, ◌++◌, map}
use mathlib.Core.Path.{◌≡◌, refl, sym, ◌∙◌, ap, ap₂, subst}
use native.Mathlib.Omega.{arith}
use lib.ListN.{length, take, drop, replicate, length-map, length-append, length-drop, length-replicate, get_or-replicate}
use Rattle.model.specs.Lists.{tabulate}
use Rattle.model.specs.Values.{Trimmed, trimmed}
use Rattle.model.specs.Answers.{Verdict, Answer, by_verdict}
use Rattle.model.specs.Judging.{judge_chain}
use Rattle.model_sheet.specs.Reading.{numbers_in, read_chain}
use Rattle.model_run.specs.Clock.{Counters, first, fresh}
use Rattle.model_run.specs.Running.{layout, counters_of, with_counters, outcome_of, judge_run, ended, Run, run_trimmed, run_of}
use Rattle.model_run.specs.CallLists.{Lending, Between, Fresh, lent_cells, call_run, after, after_all, runs}
use Rattle.std.specs.Prelude.{Ok, Err}
use Rattle.model.specs.declared.CellsPassed.{CellsPassed}
use Rattle.model.specs.declared.Chain.{Chain}
use Rattle.model.specs.declared.State.{State}
use Rattle.grid_laws.proofs.ListLaws.{tabulate_back}
use Rattle.run_laws.specs.Accepted.{Accepted}
use Rattle.run_laws.proofs.Accepts as accepts
use Rattle.run_laws.proofs.Lengths.{length_ended}
use Rattle.sheet_trips.proofs.Calls.{read_judged}
use Rattle.zohmirka_words.specs.Words.{word_at, state_size, state_in, chain_in}
use Rattle.zohmirka_reports.specs.Reports.{report_of}
use Rattle.zohmirka_runs.specs.Runs.{state_left, run_value}
use Rattle.zohmirka.specs.Calls.{run_sheet}
use Rattle.zohmirka_laws.specs.CallLists.{Call, on_sheet, Slices, between, left, left_all, called_all, OneCall, AllCalls, Lists, ListsOnChains, ListsOnSheets}
use Rattle.zohmirka_laws.proofs.States.{into_length, into_later, written_back, in_long, in_passed, in_counter}
use Rattle.zohmirka_laws.proofs.Promised.{unnumbered, read_accepted}

-- ---- The state that a call leaves

full_state : (s : State) (c : Counters) → length s.passed ≡ 32 → length c.passed ≤ 32 → length (with_counters s c).passed ≡ 32
unfolding with_counters
full_state s c full few =
    let ps : List CellsPassed = map (λ (p : ℕ). let passed : CellsPassed = record { 0 = p } in passed) c.passed in
    let rest : List CellsPassed = drop (length c.passed) s.passed in
    omega (arith, length-append ps rest, length-map c.passed (λ (p : ℕ). let passed : CellsPassed = record { 0 = p } in passed), length-drop (length c.passed) s.passed)

state_back : (t : Trimmed) → t.count ≤ 32 → (ws : List ℕ) → state_size ≤ length ws → (store lent output : List ℕ) (allowance : ℕ)
    → state_in (state_left (run_trimmed t (state_in ws) store lent output allowance).answer (run_trimmed t (state_in ws) store lent output allowance).state ws)
    ≡ (run_trimmed t (state_in ws) store lent output allowance).state
unfolding run_trimmed state_left
state_back t few ws long store lent output allowance = go (judge_run t (state_in ws) store)
  where
    last : Counters
    last = (ended t (state_in ws) store lent output allowance).standing.counters

    made : Run
    made =
        let e = ended t (state_in ws) store lent output allowance in
        record {
          answer = Ok (outcome_of e.ending e.standing.done);
          state = with_counters (state_in ws) e.standing.counters;
          store = e.standing.store;
          output = e.standing.output;
        }

    run : Verdict → Run
    run v = by_verdict v made (λ x. record { answer = Err x; state = state_in ws; store = store; output = output })

    go : (v : Verdict) → state_in (state_left (run v).answer (run v).state ws) ≡ (run v).state
    go (Ok _) =
        written_back (with_counters (state_in ws) last)
        (full_state (state_in ws) last (in_passed ws long) (omega (arith, length_ended t (state_in ws) store lent output allowance))) ws long
    go (Err x) = refl

left_length : (a : Answer) (s : State) (ws : List ℕ) → state_size ≤ length ws → length (state_left a s ws) ≡ length ws
unfolding state_left
left_length (Ok o) s ws h = into_length s ws h
left_length (Err x) s ws h = refl

left_later : (a : Answer) (s : State) (ws : List ℕ) → state_size ≤ length ws → drop state_size (state_left a s ws) ≡ drop state_size ws
unfolding state_left
left_later (Ok o) s ws h = into_later s ws h
left_later (Err x) s ws h = refl

-- ---- One call and a list of calls on a chain that is accepted

first_word : (n : ℕ) → 0 < n → (ws : List ℕ) → state_size ≤ length ws → first (counters_of n (state_in ws)).passed ≡ word_at ws 0
unfolding counters_of tabulate
first_word zero h ws long = absurd (omega arith)
first_word (suc n) h ws long = in_counter ws long 0 (omega arith)

abbrev on_value : Chain → (rows : List ℕ) → Call
on_value c rows state store cells out allowance = run_value state store cells out allowance c rows

module _ (c : Chain) (rows : List ℕ) (ok : judge_chain c rows ≡ Ok tt) where
  fresh_value : (k : Slices) → state_size ≤ length k.state → ((i : ℕ) → i < state_size → word_at k.state i ≡ 0) → Fresh (trimmed c rows) (between k)
  unfolding counters_of fresh layout
  fresh_value k long zeros =
      let few = (accepts.accepted_chain c rows ok).few in
      record {
        counters = λ i. record {
          fired = (ap (λ (s : State). s.fired.0) (in_long k.state long) ∙ zeros 32 (omega arith)) i;
          passed = tabulate_back 0 (replicate (trimmed c rows).count 0) (trimmed c rows).count _ (length-replicate (trimmed c rows).count 0)
              (λ j h. in_counter k.state long j (omega arith) ∙ zeros j (omega arith) ∙ sym (get_or-replicate (trimmed c rows).count j 0 0 h)) i;
        };
      }

  module _ (stream : ℕ → ℕ) where
    one_value : (l : Lending) (k : Slices) → state_size ≤ length k.state → OneCall (on_value c rows) c rows stream l k
    unfolding run_value run_of call_run lent_cells left after
    one_value l k long = record {
      report = ap (λ (r : Run). report_of r.answer) same;
      out = ap (λ (r : Run). r.output) same;
      hands_on = λ i. record { state = (state_back (trimmed c rows) a.few k.state long _ _ _ _ ∙ ap (λ (r : Run). r.state) same) i; store = (same i).store ++ drop l.front k.store };
      long = left_length _ _ k.state long;
      later = left_later _ _ k.state long;
    }
      where
        a : Accepted (trimmed c rows)
        a = accepts.accepted_chain c rows ok

        same : run_of c rows (state_in k.state) (take l.front k.store) (tabulate l.cells (λ i. stream (word_at k.state 0 + i))) l.output l.allowance
            ≡ call_run (trimmed c rows) stream l (between k)
        same =
            ap (λ (p : ℕ). run_trimmed (trimmed c rows) (state_in k.state) (take l.front k.store) (tabulate l.cells (λ i. stream (p + i))) l.output l.allowance)
            (sym (first_word (trimmed c rows).count a.some k.state long))

    all_value : (ls : List Lending) (k : Slices) → state_size ≤ length k.state → AllCalls (on_value c rows) c rows stream ls k
    unfolding left_all called_all runs after_all
    all_value [] k long = record { reports = refl; outs = refl; hands_on = refl }
    all_value (l ∷ ls) k long =
        let o = one_value l k long in
        let r = all_value ls (left (on_value c rows) stream l k) (rw o.long long) in
        record {
          reports = ap₂ (λ x xs. x ∷ xs) o.report (r.reports ∙ ap (λ (b : Between). map (λ (x : Run). report_of x.answer) (runs (trimmed c rows) stream ls b)) o.hands_on);
          outs = ap₂ (λ x xs. x ∷ xs) o.out (r.outs ∙ ap (λ (b : Between). map (λ (x : Run). x.output) (runs (trimmed c rows) stream ls b)) o.hands_on);
          hands_on = r.hands_on ∙ ap (after_all (trimmed c rows) stream ls) o.hands_on;
        }

  lists_value : Lists (on_value c rows) c rows
  lists_value = record { accepted = ok; fresh = fresh_value; one = one_value; all = all_value }

pub lists_on_chains : ListsOnChains
lists_on_chains chain rows h = lists_value (chain_in chain) rows (unnumbered (judge_chain (chain_in chain) rows) h)

lists_read : (sheet : List ℕ) (c : Chain) → read_chain sheet ≡ Ok c → Lists (on_sheet sheet) c (numbers_in sheet)
unfolding run_sheet
lists_read sheet c e =
    subst (λ (f : Call). Lists f c (numbers_in sheet)) (λ i state store cells out allowance. same state store cells out allowance i)
    (lists_value c (numbers_in sheet) (read_judged sheet c e))
  where
    same : (state store cells out : List ℕ) (allowance : ℕ)
        → run_value state store cells out allowance c (numbers_in sheet) ≡ run_sheet state store cells out allowance sheet
    same state store cells out allowance = rw e

pub lists_on_sheets : ListsOnSheets
lists_on_sheets sheet h = let f = read_accepted sheet h in (f.0, f.1, lists_read sheet f.0 f.1)
