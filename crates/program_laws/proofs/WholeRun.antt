-- The whole run over the cells behind a sheet: it stops where any run over them stops.
use Prim.Native.Nat.{ℕ, zero, suc, ◌+◌, ◌*◌, ◌≤◌, ◌<◌}
use mathlib.Core.Bool.{false}
use mathlib.Core.List.{List, [], ◌∷◌, ◌++◌, append-nil}
use mathlib.Core.Path.{◌≡◌, refl, sym, ◌∙◌, ap, ap₂, subst}
use native.Mathlib.Nat.{suc-mul, mul-le-mul_right}
use native.Mathlib.Omega.{arith}
use lib.ListN.{length, get_or, take, replicate, length-replicate, get_or-append}
use lib.Seq.{take_all, get_or-append-add}
use borrow.Author.Tests.{le-ltb}
use Rattle.model.specs.Lists.{tabulate, sum}
use Rattle.model.specs.Values.{Trimmed, trimmed}
use Rattle.model.specs.Judging.{judge_chain}
use Rattle.model_run.specs.Clock.{Counters, first}
use Rattle.model_run.specs.Clock as clock
use Rattle.model_run.specs.Running.{layout, counters_of, Ending, Done, Spent, Starved, Stalled, Full, Ended, ends, short_store, begun, written_by, width_of}
use Rattle.model_run.specs.CallLists.{Lending, Between, lent_cells}
use Rattle.model_program.specs.Programs.{firings_text, end_text, whole_run}
use Rattle.model.specs.declared.CellsPassed.{CellsPassed}
use Rattle.model.specs.declared.Chain.{Chain}
use Rattle.std.specs.Prelude.{Ok}
use Rattle.model.specs.Answers.{Verdict}
use Rattle.grid_laws.proofs.ListLaws.{tabulate_back}
use Rattle.flow.proofs.Laws.{fewer_clocks}
use Rattle.flow.proofs.Timing.{fresh_first}
use Rattle.model_run.specs.Words.{words_from}
use Rattle.run_laws.proofs.Accepts.{trimmed_proper, accepted_chain}
use Rattle.run_laws.proofs.Layouts.{lawful}
use Rattle.run_laws.proofs.Looks.{Looked, is_done, is_spent, is_starved, is_stalled, is_full_lem}
use Rattle.run_laws.proofs.Traces.{Traced, traced_ran}
use Rattle.run_laws.proofs.Between.{Setting, Reached, fresh_reached, now, beginning, ending, clocks, counted_call, lent_length}
use Rattle.run_laws.proofs.CallEnds.{why}
use Rattle.program_jobs.specs.Jobs.{fresh}
use Rattle.program_laws.proofs.Going.{Gone, goes_on, ending_at, gone_same, done_stops, starved_stops, stalled_stops}
use Rattle.program_laws.proofs.Texts.{words_only}
use Rattle.program_laws.proofs.Calls.{end_gone, end_taken, end_fired, end_words, end_length}

-- Counters "are all 0 when fresh".
zeros : (n m : ℕ) → tabulate n (λ k. (get_or (replicate m (let p : CellsPassed = record { 0 = 0 } in p)) k (record { 0 = 0 })).0) ≡ replicate n 0
unfolding tabulate
zeros zero m = refl
zeros (suc n) zero = ap (λ (l : List ℕ). 0 ∷ l) (zeros n zero)
zeros (suc n) (suc m) = ap (λ (l : List ℕ). 0 ∷ l) (zeros n m)

pub fresh_counters : (t : Trimmed) → counters_of t.count fresh ≡ clock.fresh (layout t)
unfolding counters_of clock.fresh layout
fresh_counters t = ap (λ (l : List ℕ). let s : Counters = record { fired = 0; passed = l } in s) (zeros t.count 32)

pub none_passed : (t : Trimmed) → first (counters_of t.count fresh).passed ≡ 0
none_passed t = ap (λ (s : Counters). first s.passed) (fresh_counters t) ∙ fresh_first (layout t)

-- The cells that a call is lent, where those before them were taken.
pub lent_hand : (t : Trimmed) (all taken hand later : List ℕ) (l : Lending) (b : Between) → all ≡ taken ++ (hand ++ later)
    → first (counters_of t.count b.state).passed ≡ length taken → l.cells ≡ length hand → lent_cells t (λ i. get_or all i 0) l b ≡ hand
unfolding lent_cells
lent_hand t all taken hand later l b e p n =
    tabulate_back 0 hand l.cells _ (sym n)
    (λ k h. ap₂ (λ (xs : List ℕ) (i : ℕ). get_or xs (i + k) 0) e p ∙ get_or-append-add taken (hand ++ later) k 0 ∙ get_or-append hand later 0 k (omega arith))

module _ (c : Chain) (rows : List ℕ) (ok : judge_chain c rows ≡ Ok tt) (all : List ℕ) where
  -- The chain, and the cells as a stream.
  abbrev pub setting_of : Setting
  setting_of = record { trimmed = trimmed c rows; proper = trimmed_proper c rows; accepted = accepted_chain c rows ok; stream = λ i. get_or all i 0 }

  abbrev t : Trimmed
  t = trimmed c rows

  -- The whole run as a call.
  lending : Lending
  lending = record {
    cells = length all;
    output = replicate ((layout t).iterations * width_of t) 0;
    allowance = t.count * (layout t).cells;
    front = sum t.capacities;
  }

  start : Between
  start = record { state = fresh; store = replicate (sum t.capacities) 0 }

  front_store : take {A = ℕ} (sum t.capacities) (replicate (sum t.capacities) 0) ≡ replicate (sum t.capacities) 0
  front_store = take_all (sum t.capacities) (replicate (sum t.capacities) 0) (omega (arith, length-replicate {A = ℕ} (sum t.capacities) 0))

  all_lent : lent_cells t (λ i. get_or all i 0) lending start ≡ all
  unfolding lending start
  all_lent = lent_hand t all [] all [] lending start (sym (append-nil all)) (none_passed t) refl

  whole_call : ending setting_of lending start ≡ whole_run t all
  unfolding ending beginning begun whole_run lending start
  whole_call = rw (all_lent, fresh_counters t, front_store)

  start_reached : Reached setting_of start []
  unfolding start
  start_reached = fresh_reached setting_of start (record { counters = fresh_counters t })

  long : short_store t (take lending.front start.store) ≡ false
  unfolding short_store lending start
  long =
      let z : sum t.capacities ≤ length (replicate {A = ℕ} (sum t.capacities) 0) = omega (arith, length-replicate {A = ℕ} (sum t.capacities) 0) in
      rw front_store (le-ltb _ _ z)

  abbrev e : Ended
  e = ending setting_of lending start

  now_fresh : now setting_of start ≡ clock.fresh (layout t)
  unfolding start
  now_fresh = fresh_counters t

  run_gone : Gone (layout t) (length all) (clock.fresh (layout t)) e.standing.done.clocks e.standing.counters
  unfolding lending start
  run_gone =
      subst (λ (s : Counters). Gone (layout t) (length all) s e.standing.done.clocks e.standing.counters) now_fresh
      (end_gone setting_of lending start start_reached long (length all)
      (omega (arith, none_passed t)))

  run_firings : e.standing.done.firings ≡ e.standing.counters.fired
  unfolding start counters_of
  run_firings = omega (arith, end_fired setting_of lending start start_reached long)

  -- What its last look has to go by.
  all_taken_lem : first e.standing.counters.passed ≡ e.standing.done.cells
  unfolding start
  all_taken_lem = omega (arith, end_taken setting_of lending start start_reached long, none_passed t)

  lent_count : length (lent_cells t (λ i. get_or all i 0) lending start) ≡ length all
  unfolding lending
  lent_count = lent_length setting_of lending start

  places : length e.standing.output ≡ (layout t).iterations * width_of t
  unfolding lending
  places = end_length setting_of lending start start_reached long ∙ length-replicate {A = ℕ} ((layout t).iterations * width_of t) 0

  few : e.standing.counters.fired < (layout t).iterations → length (clocks setting_of lending start) < lending.allowance
  unfolding lending layout beginning begun
  few f =
      fewer_clocks (layout t) (lawful t (trimmed_proper c rows) (accepted_chain c rows ok))
      (traced_ran (layout t) (subst (λ (s : Counters). Traced (layout t) s (clocks setting_of lending start) e.standing.counters) now_fresh (counted setting_of lending start))) f
    where
      counted : (S : Setting) (l : Lending) (b : Between) → Traced (layout S.trimmed) (now S b) (clocks S l b) (ending S l b).standing.counters
      counted S l b = (counted_call S l b).traced

  run_stops : (goes_on (layout t) (length all) e.standing.counters ≡ false) × (e.ending ≡ ending_at (layout t) (length all) e.standing.counters)
  run_stops = go e.ending refl (why setting_of lending start start_reached).why
    where
      N : ℕ
      N = length all

      s : Counters
      s = e.standing.counters

      go : (x : Ending) → e.ending ≡ x
          → Looked (layout t) (written_by t) (width_of t) (lent_cells t (λ i. get_or all i 0) lending start) (why setting_of lending start start_reached).rest e.standing (ends x)
          → (goes_on (layout t) N s ≡ false) × (e.ending ≡ ending_at (layout t) N s)
      go Done x (is_done f) = let (a, b) = done_stops (layout t) N s f in (a, x ∙ sym b)
      go Starved x (is_starved f _ n) = let (a, b) = starved_stops (layout t) N s f (omega (arith, all_taken_lem, lent_count)) in (a, x ∙ sym b)
      go Stalled x (is_stalled f _ n m) = let (a, b) = stalled_stops (layout t) N s f (omega (arith, all_taken_lem, lent_count)) m in (a, x ∙ sym b)
      go Spent x (is_spent f z) = absurd (omega (arith, few f, (why setting_of lending start start_reached).allowed))
      go Full x (is_full_lem f _ _ _ _ p) =
          let n = e.standing.done.firings in
          let more : suc n ≤ (layout t).iterations = omega (arith, run_firings) in
          absurd (omega (arith, mul-le-mul_right (width_of t) more, suc-mul n (width_of t), places))

  -- The text of the whole run, at any place where a run over these cells stops.
  pub whole_text : (n : ℕ) (d : Counters) (v : Verdict) → Gone (layout t) (length all) (clock.fresh (layout t)) n d → goes_on (layout t) (length all) d ≡ false
      → firings_text (width_of t) 0 (whole_run t all).standing.done.firings (whole_run t all).standing.output
      ++ end_text (whole_run t all).ending (whole_run t all).standing.done.clocks v
      ≡ firings_text (width_of t) 0 d.fired (words_from t (λ i. get_or all i 0) 0 d.fired) ++ end_text (ending_at (layout t) (length all) d) n v
  unfolding start counters_of
  whole_text n d v g stop =
      let same = gone_same (layout t) (length all) run_gone run_stops.0 g stop in
      ap (λ (x : Ended). firings_text (width_of t) 0 x.standing.done.firings x.standing.output ++ end_text x.ending x.standing.done.clocks v) (sym whole_call)
      ∙ ap₂ (λ (x y : List ℕ). x ++ y)
      (sym (words_only (width_of t) 0 e.standing.done.firings e.standing.output)
      ∙ ap (λ (ws : List ℕ). firings_text (width_of t) 0 e.standing.done.firings ws) (end_words setting_of lending start start_reached long)
      ∙ ap (λ (k : ℕ). firings_text (width_of t) 0 k (words_from t (λ i. get_or all i 0) 0 k)) (run_firings ∙ ap (λ (s : Counters). s.fired) same.1))
      (ap₂ (λ (x : Ending) (k : ℕ). end_text x k v) (run_stops.1 ∙ ap (λ (s : Counters). ending_at (layout t) (length all) s) same.1) same.0)

  -- And how it ends.
  pub whole_ending : (n : ℕ) (d : Counters) → Gone (layout t) (length all) (clock.fresh (layout t)) n d → goes_on (layout t) (length all) d ≡ false
      → (whole_run t all).ending ≡ ending_at (layout t) (length all) d
  whole_ending n d g stop =
      ap (λ (x : Ended). x.ending) (sym whole_call) ∙ run_stops.1
      ∙ ap (λ (s : Counters). ending_at (layout t) (length all) s) (gone_same (layout t) (length all) run_gone run_stops.0 g stop).1
