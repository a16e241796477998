-- Behind the sheet, between two run calls: what was written so far, and what one more call adds.
use Prim.Native.Nat.{ℕ, zero, suc, ◌+◌, ◌*◌, ◌≤◌, ◌<◌}
use mathlib.Core.Bool.{Bool, true, false}
use mathlib.Core.List.{List, [], ◌∷◌, ◌++◌, append-nil, append_assoc}
use mathlib.Core.Path.{◌≡◌, refl, sym, ◌∙◌, ap, ap₂, subst}
use native.Mathlib.Nat.{zero-add, zero-mul, suc-mul, mul-le-mul}
use native.Mathlib.Omega.{arith}
use lib.ListN.{length, get_or, take, drop, length-append, take-append-drop, drop_of_length-le}
use lib.Seq.{take-length, drop-length, length-take-le}
use borrow.Author.Tests.{le-ltb}
use Rattle.model.specs.Values.{Trimmed, trimmed}
use Rattle.model.specs.Judging.{most_places, judge_chain}
use Rattle.model_run.specs.Clock.{Counters, first}
use Rattle.model_run.specs.Clock as clock
use Rattle.model_run.specs.Running.{layout, counters_of, with_counters, Ending, Done, Spent, Starved, Stalled, Full, Ended, ends, outcome_of, Run, short_store, written_by, width_of, run_trimmed, run_of}
use Rattle.model_run.specs.CallLists.{Lending, Between, lent_cells, call_run, after, firings_among}
use Rattle.model_program.specs.Programs.{firings_text}
use Rattle.model.specs.declared.Chain.{Chain}
use Rattle.model.specs.declared.Counts.{Counts}
use Rattle.model.specs.declared.State.{State}
use Rattle.std.specs.Prelude.{Ok}
use Rattle.grid_laws.proofs.ListLaws.{length_tabulate}
use Rattle.flow.proofs.Laws.{few_clocks}
use Rattle.model_run.specs.Words.{words_of, words_from}
use Rattle.run_laws.specs.Accepted.{Accepted}
use Rattle.run_laws.proofs.Accepts.{trimmed_proper, accepted_chain}
use Rattle.run_laws.proofs.Layouts.{lawful}
use Rattle.run_laws.proofs.Looks.{Looked, is_done, is_spent, is_starved, is_stalled, is_full_lem}
use Rattle.run_laws.proofs.Traces.{traced_ran}
use Rattle.run_laws.proofs.Between.{Setting, Reached, ending, ran, lent_length, width_right, now_after, after_reached}
use Rattle.run_laws.proofs.Between as between
use Rattle.run_laws.proofs.CallEnds.{why, not_short, not_short_events}
use Rattle.run_laws.proofs.Between.{reached_fired}
use Rattle.model_run.proofs.WordLaws.{words_append}
use Rattle.program_laws.proofs.Going.{Gone, goes_on, ending_at, gone_join, done_stops, stalled_stops}
use Rattle.program_laws.proofs.Texts.{words_only, text_joined}
use Rattle.program_laws.proofs.Calls.{end_clocks, end_firings, end_gone, end_taken, end_within, end_fired, end_words, end_length, end_fits, end_store}
use Rattle.program_laws.proofs.WholeRun.{setting_of, lent_hand}

-- How many clocks an accepted chain can make.
pub most_clocks : (t : Trimmed) → Accepted t → t.count * (layout t).cells ≤ 33554432
unfolding layout
most_clocks t a = mul-le-mul a.few a.cells

-- As many words as firings.
module _ (S : Setting) where
  open S use {trimmed as t, stream}

  length_of : (j : ℕ) → length (words_of t stream j) ≡ width_of t
  unfolding words_of layout
  length_of j = width_right S _ (length_tabulate t.count _)

  length_words : (j n : ℕ) → length (words_from t stream j n) ≡ n * width_of t
  unfolding words_from
  length_words j zero = sym (zero-mul (width_of t))
  length_words j (suc n) =
      length-append (words_of t stream j) (words_from t stream (suc j) n) ∙ omega (arith, length_of j, length_words (suc j) n, suc-mul n (width_of t))

  -- The text of n firings, and of m more whose words stand in front of an output.
  pub text_further : (n m : ℕ) (out : List ℕ) → take (m * width_of t) out ≡ words_from t stream n m
      → firings_text (width_of t) 0 n (words_from t stream 0 n) ++ firings_text (width_of t) n m out ≡ firings_text (width_of t) 0 (n + m) (words_from t stream 0 (n + m))
  text_further n m out e =
      ap (λ (x : List ℕ). firings_text (width_of t) 0 n (words_from t stream 0 n) ++ x)
      (sym (words_only (width_of t) n m out)
      ∙ ap₂ (λ (i : ℕ) (ws : List ℕ). firings_text (width_of t) i m ws) (sym (zero-add n)) (e ∙ ap (λ (j : ℕ). words_from t stream j m) (sym (zero-add n))))
      ∙ text_joined (width_of t) 0 n m (words_from t stream 0 n) (words_from t stream (0 + n) m) (length_words 0 n)
      ∙ ap (λ (ws : List ℕ). firings_text (width_of t) 0 (n + m) ws) (words_append t stream 0 n m)

fired_most : (es : List Bool) → firings_among es ≤ length es
unfolding firings_among
fired_most [] = omega arith
fired_most (true ∷ es) = omega (arith, fired_most es)
fired_most (false ∷ es) = omega (arith, fired_most es)

module _ (c : Chain) (rows : List ℕ) (ok : judge_chain c rows ≡ Ok tt) (all : List ℕ) where
  abbrev S : Setting
  S = setting_of c rows ok all

  abbrev t : Trimmed
  t = trimmed c rows

  abbrev pub standing : State → List ℕ → Between
  standing state store = record { state = state; store = store }

  abbrev pub counters : State → Counters
  counters state = counters_of (trimmed c rows).count state

  -- So many clocks were made and this was written; of all cells some are taken, some are at hand and the others come later.
  pub record Stands (state : State) (store : List ℕ) (clocks : ℕ) (written hand later : List ℕ) : Type 0 where
    pub es : List Bool
    pub reached : Reached (setting_of c rows ok all) (standing state store) es
    pub gone : Gone (layout (trimmed c rows)) (length all) (clock.fresh (layout (trimmed c rows))) clocks (counters state)
    pub count : clocks ≡ length es
    pub text : written ≡ firings_text (width_of (trimmed c rows)) 0 (counters state).fired (words_from (trimmed c rows) (λ i. get_or all i 0) 0 (counters state).fired)
    pub long : most_places ≤ length store
    pub taken : List ℕ
    pub split : all ≡ taken ++ (hand ++ later)
    pub position : length taken ≡ first (counters state).passed

  -- A whole run makes few clocks, and no more firings.
  pub clocks_few : {state : State} {store : List ℕ} {clocks : ℕ} {written hand later : List ℕ} → Stands state store clocks written hand later → clocks ≤ 33554432
  unfolding layout
  clocks_few a =
      omega (
        arith,
        a.count,
        most_clocks t (accepted_chain c rows ok),
        few_clocks (layout t) (lawful t (trimmed_proper c rows) (accepted_chain c rows ok)) (traced_ran (layout t) a.reached.traced),
      )

  pub fired_few : {state : State} {store : List ℕ} {clocks : ℕ} {written hand later : List ℕ} → Stands state store clocks written hand later
      → (counters state).fired ≤ 33554432
  fired_few a = omega (arith, clocks_few a, reached_fired S a.reached, fired_most a.es, a.count)

  -- How a call stopped: at the counters d, with these of the cells at hand not taken. One that may go on made a clock.
  pub data Stopped (out : List ℕ) (allowance made : ℕ) (d : Counters) (rest : List ℕ) : Ending → Type 0 where
    at_done : goes_on (layout (trimmed c rows)) (length all) d ≡ false → ending_at (layout (trimmed c rows)) (length all) d ≡ Done → Stopped out allowance made d rest Done
    at_stalled : goes_on (layout (trimmed c rows)) (length all) d ≡ false → ending_at (layout (trimmed c rows)) (length all) d ≡ Stalled → Stopped out allowance made d rest Stalled
    at_starved : d.fired < (layout (trimmed c rows)).iterations → rest ≡ [] → Stopped out allowance made d rest Starved
    at_spent : (0 < allowance → 0 < made) → Stopped out allowance made d rest Spent
    at_full : (width_of (trimmed c rows) ≤ length out → 0 < made) → Stopped out allowance made d rest Full

  module _ {state : State} {store : List ℕ} {clocks : ℕ} {written hand later : List ℕ} (a : Stands state store clocks written hand later) (out : List ℕ) (allowance : ℕ) where
    -- What one more call over the cells at hand adds.
    pub record Went (r : Run) : Type 0 where
      pub ending : Ending
      pub counts : Counts
      pub answer : r.answer ≡ Ok (outcome_of ending counts)
      pub stands : Stands r.state r.store (clocks + counts.clocks)
          (written ++ firings_text (width_of (trimmed c rows)) (counters state).fired counts.firings r.output) (drop counts.cells hand) later
      pub stopped : Stopped out allowance counts.clocks (counters r.state) (drop counts.cells hand) ending
      pub fired : (counters r.state).fired ≡ (counters state).fired + counts.firings
      pub fits : counts.firings * width_of (trimmed c rows) ≤ length out
      pub same_length : length r.output ≡ length out
      pub within : counts.cells ≤ length hand

    abbrev l : Lending
    l = record { cells = length hand; output = out; allowance = allowance; front = length store }

    abbrev b : Between
    b = standing state store

    abbrev end : Ended
    end = ending S l b

    abbrev did : Counts
    did = end.standing.done

    long_store : short_store t (take (length store) store) ≡ false
    unfolding short_store
    long_store = rw (take-length store) (le-ltb _ _ (enough (accepted_chain c rows ok).places a.long))
      where
        enough : {m n : ℕ} → m ≤ most_places → most_places ≤ n → m ≤ n
        enough p q = omega arith

    lent : lent_cells t (λ i. get_or all i 0) l b ≡ hand
    lent = lent_hand t all a.taken hand later l b a.split (sym a.position) refl

    same_run : run_of c rows state store hand out allowance ≡ ran S l b
    unfolding run_of call_run
    same_run = ap₂ (λ (xs ys : List ℕ). run_trimmed t state xs ys out allowance) (sym (take-length store)) (sym lent) ∙ not_short S l b a.reached long_store

    -- What the call hands on.
    handed_on_lem : after t (λ i. get_or all i 0) l b ≡ standing (with_counters state end.standing.counters) end.standing.store
    unfolding after ran
    handed_on_lem =
        ap₂ (λ (r : Run) (xs : List ℕ). standing r.state (r.store ++ xs)) (not_short S l b a.reached long_store) (drop-length store)
        ∙ ap (λ (xs : List ℕ). standing (with_counters state end.standing.counters) xs) (append-nil end.standing.store)

    now_there : counters (with_counters state end.standing.counters) ≡ end.standing.counters
    now_there = ap (λ (x : Between). counters x.state) (sym handed_on_lem) ∙ now_after S l b a.reached long_store

    there_reached : Reached S (standing (with_counters state end.standing.counters) end.standing.store) (a.es ++ between.clocks S l b)
    there_reached =
        subst (λ (x : Between). Reached S x (a.es ++ between.clocks S l b)) handed_on_lem
        (subst (λ (fs : List Bool). Reached S (after t (λ i. get_or all i 0) l b) (a.es ++ fs)) (not_short_events S l b a.reached long_store)
        (after_reached S l b a.reached))

    all_length : first (counters state).passed + length hand ≤ length all
    all_length =
        omega (arith, ap length a.split, length-append a.taken (hand ++ later), length-append hand later, a.position)

    there_gone : Gone (layout t) (length all) (clock.fresh (layout t)) (clocks + did.clocks) end.standing.counters
    there_gone = gone_join (layout t) (length all) a.gone (end_gone S l b a.reached long_store (length all) all_length)

    there_fired : end.standing.counters.fired ≡ (counters state).fired + did.firings
    there_fired = end_fired S l b a.reached long_store

    there_text : written ++ firings_text (width_of t) (counters state).fired did.firings end.standing.output
        ≡ firings_text (width_of t) 0 end.standing.counters.fired (words_from t (λ i. get_or all i 0) 0 end.standing.counters.fired)
    there_text =
        ap (λ (x : List ℕ). x ++ firings_text (width_of t) (counters state).fired did.firings end.standing.output) a.text
        ∙ text_further S (counters state).fired did.firings end.standing.output (end_words S l b a.reached long_store)
        ∙ ap (λ (n : ℕ). firings_text (width_of t) 0 n (words_from t (λ i. get_or all i 0) 0 n)) (sym there_fired)

    there_split : all ≡ (a.taken ++ take did.cells hand) ++ (drop did.cells hand ++ later)
    there_split =
        a.split
        ∙ ap (λ (xs : List ℕ). a.taken ++ xs)
        (ap (λ (xs : List ℕ). xs ++ later) (sym (take-append-drop did.cells hand)) ∙ append_assoc (take did.cells hand) (drop did.cells hand) later)
        ∙ sym (append_assoc a.taken (take did.cells hand) (drop did.cells hand ++ later))

    there_position : length (a.taken ++ take did.cells hand) ≡ first end.standing.counters.passed
    there_position =
        omega (
          arith,
          length-append a.taken (take did.cells hand),
          length-take-le did.cells hand (end_within S l b a.reached long_store),
          a.position,
          end_taken S l b a.reached long_store,
        )

    there : Stands (with_counters state end.standing.counters) end.standing.store (clocks + did.clocks)
        (written ++ firings_text (width_of t) (counters state).fired did.firings end.standing.output) (drop did.cells hand) later
    there = record {
      es = a.es ++ between.clocks S l b;
      reached = there_reached;
      gone = rw now_there there_gone;
      count = omega (arith, a.count, end_clocks S l b a.reached long_store, length-append a.es (between.clocks S l b));
      text = rw now_there there_text;
      long = omega (arith, end_store S l b a.reached long_store, a.long, ap length (take-length store));
      taken = a.taken ++ take did.cells hand;
      split = there_split;
      position = rw now_there there_position;
    }

    no_event : (fs : List Bool) → length fs ≡ 0 → firings_among fs ≡ 0
    unfolding firings_among
    no_event [] e = refl
    no_event (f ∷ fs) e = absurd (omega arith)

    stop : Stopped out allowance did.clocks end.standing.counters (drop did.cells hand) end.ending
    stop = go end.ending (why S l b a.reached).why
      where
        taken : first end.standing.counters.passed ≡ first (counters state).passed + did.cells
        taken = end_taken S l b a.reached long_store

        lent_count : length (lent_cells t (λ i. get_or all i 0) l b) ≡ length hand
        lent_count = lent_length S l b

        go : (x : Ending)
            → Looked (layout t) (written_by t) (width_of t) (lent_cells t (λ i. get_or all i 0) l b) (why S l b a.reached).rest end.standing (ends x)
            → Stopped out allowance did.clocks end.standing.counters (drop did.cells hand) x
        go Done (is_done f) = let (x, y) = done_stops (layout t) (length all) end.standing.counters f in at_done x y
        go Stalled (is_stalled f _ n m) =
            let (x, y) = stalled_stops (layout t) (length all) end.standing.counters f (omega (arith, taken, lent_count, all_length)) m in at_stalled x y
        go Starved (is_starved f _ n) = at_starved f (drop_of_length-le hand {i = did.cells} (omega (arith, lent_count)))
        go Spent (is_spent f z) = at_spent (λ h. omega (arith, (why S l b a.reached).allowed, end_clocks S l b a.reached long_store))
        go Full (is_full_lem f _ _ _ _ p) = at_full (λ h. made h p)
          where
            made : width_of t ≤ length out → length end.standing.output < did.firings * width_of t + width_of t → 0 < did.clocks
            made h p = by_zero did.clocks (end_clocks S l b a.reached long_store)
              where
                by_zero : (n : ℕ) → n ≡ length (between.clocks S l b) → 0 < n
                by_zero zero e =
                    absurd (omega (arith, end_length S l b a.reached long_store, ap (λ (n : ℕ). n * width_of t) (end_firings S l b a.reached long_store ∙ no_event _ (sym e)), zero-mul (width_of t)))
                by_zero (suc n) e = omega arith

    went_run : Went (ran S l b)
    unfolding ran
    went_run = record {
      ending = end.ending;
      counts = did;
      answer = refl;
      stands = there;
      stopped = rw now_there stop;
      fired = ap (λ (s : Counters). s.fired) now_there ∙ there_fired;
      fits = end_fits S l b a.reached long_store;
      same_length = end_length S l b a.reached long_store;
      within = end_within S l b a.reached long_store;
    }

    pub went : Went (run_of c rows state store hand out allowance)
    went = subst Went (sym same_run) went_run
