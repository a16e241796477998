-- A run call on any state that no number turns back: the proofs.
use Prim.Native.Nat.{ℕ, ◌+◌, ◌*◌, ◌≤◌, ◌<◌}
use mathlib.Core.Bool.{Bool, false}
use mathlib.Core.List.{List}
use mathlib.Core.Logic.{◌↔◌}
use mathlib.Core.Path.{◌≡◌, refl, sym, ◌∙◌, ap, ap₂, subst, subst₂}
use native.Mathlib.Nat.{le_antisymm}
use native.Mathlib.Omega.{arith}
use lib.ListN.{length, drop}
use borrow.Author.Tests.{lt-ltb, le-leb, lt-leb, eq-eqb, ne_eqb}
use Rattle.model.specs.Lists.{sum}
use Rattle.model.specs.Values.{Trimmed, trimmed}
use Rattle.model.specs.Iterations.{iterations_of}
use Rattle.model.specs.Answers.{no_counts, answer_counts}
use Rattle.model_run.specs.Clock.{Counters, moves}
use Rattle.model_run.specs.Running.{layout, counters_of, Standing, Ending, Done, Spent, Starved, Stalled, Full, Look, goes, ends, Ended, outcome_of, look, events, short_store, judge_run, begun, written_by, width_of, ended, run_of, Run}
use Rattle.model.specs.declared.Chain.{Chain}
use Rattle.model.specs.declared.State.{State}
use Rattle.model.specs.declared.Counts.{Counts}
use Rattle.model.specs.declared.Outcome.TheVariants as outcome
use Rattle.std.specs.Prelude.{Ok}
use Rattle.model_run.specs.Reports.{Reports, firings_of}
use Rattle.model.specs.Sized.{Proper}
use Rattle.flow.specs.Machine.{live, Invariant}
use Rattle.flow.proofs.Laws.{progress, block}
use Rattle.run_laws.specs.Accepted.{Accepted}
use Rattle.run_laws.proofs.Accepts.{trimmed_proper, accepted}
use Rattle.run_laws.proofs.Layouts.{lawful, all_places}
use Rattle.run_laws.proofs.Looks.{Looked, is_done, is_spent, is_starved, is_stalled, is_full_lem}
use Rattle.run_laws.proofs.Traces.{still_traced}
use Rattle.run_laws.proofs.Calls.{Counted, counted}
use Rattle.run_laws.proofs.Ends.{EndsSo, ends_so, no_clock}
use Rattle.run_laws.proofs.CallEnds.{outcome_counts_lem, answered, answered_back}
use Rattle.demands.specs.AnyState.{Lent, Means, run, Within, Kept, once_more, CalledAgain, AnyStates}
use Rattle.demands.proofs.Again.{done_dead, stalled_dead}
use Rattle.run_laws.proofs.AnyState.{Stays, Judged, judged_run}
use Rattle.run_laws.proofs.AnyState as any

-- Where a call ends with `rest` of its allowance left: the look there finds an outcome exactly if the end is what the outcome says.
module _ (t : Trimmed) (proper : Proper t) (ok : Accepted t) (l : Lent) (rest : ℕ) (end : Standing) (inv : Invariant (layout t) end.counters)
    (allowed : rest + end.done.clocks ≡ l.allowance) (taken : end.done.cells ≤ length l.cells) (long : length end.output ≡ length l.output) where
  looked_means : (e : Ending) → Looked (layout t) (written_by t) (width_of t) l.cells rest end (ends e) → Means t l end.counters end.done e
  unfolding layout
  looked_means Done (is_done f) = le_antisymm inv.most f
  looked_means Spent (is_spent f z) = (f, omega arith)
  looked_means Starved (is_starved f r c) = (f, omega arith, le_antisymm taken c)
  looked_means Stalled (is_stalled f r c m) = (f, omega arith, c, m)
  looked_means Full (is_full_lem f r c m g p) = (f, omega arith, omega (arith, c), g, omega (arith, p))

  means_look : (e : Ending) → Means t l end.counters end.done e → look (layout t) (written_by t) (width_of t) l.cells rest end ≡ ends e
  unfolding layout look
  means_look Done m = rw (le-leb (iterations_of t) end.counters.fired (omega arith)) refl
  means_look Spent m = rw (lt-leb (iterations_of t) end.counters.fired m.0, eq-eqb rest 0 (omega (arith, m.1))) refl
  means_look Starved m =
      rw (lt-leb (iterations_of t) end.counters.fired m.0, ne_eqb rest 0 (λ z. omega (arith, m.1)), le-leb (length l.cells) end.done.cells (omega (arith, m.2))) refl
  means_look Stalled m =
      rw (lt-leb (iterations_of t) end.counters.fired m.0, ne_eqb rest 0 (λ z. omega (arith, m.1)), lt-leb (length l.cells) end.done.cells m.2, m.3) refl
  means_look Full m =
      let moving = progress (layout t) (lawful t proper ok) inv m.0 (block (layout t) (lawful t proper ok) inv m.3) in
      rw (
        lt-leb (iterations_of t) end.counters.fired m.0,
        ne_eqb rest 0 (λ z. omega (arith, m.1)),
        lt-leb (length l.cells) end.done.cells (omega (arith, m.2)),
        moving,
        m.3,
        lt-ltb (length end.output) (end.done.firings * width_of t + width_of t) (omega (arith, m.4)),
      ) refl

  -- So no two outcomes say what holds at one end.
  one_outcome : (e f : Ending) → Means t l end.counters end.done e → Means t l end.counters end.done f → e ≡ f
  one_outcome e f x y = ap ending_at (sym (means_look e x) ∙ means_look f y)
    where
      ending_at : Look → Ending
      ending_at goes = Done
      ending_at (ends d) = d

module _ (c : Chain) (rows : List ℕ) (s : State) (l : Lent) (j : Judged (trimmed c rows) s l.store) where
  abbrev t : Trimmed
  t = trimmed c rows

  abbrev proper : Proper t
  proper = trimmed_proper c rows

  abbrev ok : Accepted t
  ok = accepted t proper j.value

  abbrev start : Standing
  start = begun t s l.store l.output

  abbrev end : Ended
  end = ended t s l.store l.cells l.output l.allowance

  abbrev end_stays : Stays (layout t) (lawful t proper ok) (written_by t) (width_of t) l.cells (any.write_width t proper s l.store l.cells l.output l.allowance j) start end
  end_stays = any.end_stays t proper s l.store l.cells l.output l.allowance j

  abbrev fired_in : List Bool
  fired_in = events (layout t) (written_by t) (width_of t) l.cells l.allowance start

  end_counted : Counted (layout t) (written_by t) (width_of t) l.cells start end fired_in
  unfolding ended
  end_counted = counted (layout t) (written_by t) (width_of t) l.cells l.allowance start

  end_why : EndsSo (layout t) (written_by t) (width_of t) l.cells l.allowance end fired_in
  unfolding ended
  end_why = ends_so (layout t) (written_by t) (width_of t) l.cells l.allowance start

  end_allowed : end_why.rest + end.standing.done.clocks ≡ l.allowance
  unfolding begun
  end_allowed = omega (arith, end_why.allowed, end_counted.clocks)

  end_means : Means t l end.standing.counters end.standing.done end.ending
  unfolding begun
  end_means = looked_means t proper ok l end_why.rest end.standing end_stays.good.invariant end_allowed end_stays.good.taken end_stays.output_length end.ending end_why.why

  end_one : (e : Ending) → Means t l end.standing.counters end.standing.done e → end.ending ≡ e
  unfolding begun
  end_one e m =
      one_outcome t proper ok l end_why.rest end.standing end_stays.good.invariant end_allowed end_stays.good.taken end_stays.output_length end.ending e end_means m

  -- What the call leaves, by its end.
  abbrev ran : Run
  ran = any.ran t proper s l.store l.cells l.output l.allowance j

  run_is : run c rows s l ≡ ran
  unfolding run_of
  run_is = any.run_is t proper s l.store l.cells l.output l.allowance j

  run_counts : answer_counts (run c rows s l).answer ≡ end.standing.done
  unfolding any.ran answer_counts
  run_counts = ap (λ (x : Run). answer_counts x.answer) run_is ∙ outcome_counts_lem end.ending end.standing.done

  run_firings : firings_of (run c rows s l) ≡ end.standing.done.firings
  run_firings = ap (λ (d : Counts). d.firings) run_counts

  run_counters : counters_of t.count (run c rows s l).state ≡ end.standing.counters
  unfolding run_of
  run_counters = any.run_counters t proper s l.store l.cells l.output l.allowance j

  run_answer : (e : Ending) (d : Counts) → end.ending ≡ e → end.standing.done ≡ d → (run c rows s l).answer ≡ Ok (outcome_of e d)
  unfolding any.ran
  run_answer e d x y = ap (λ (r : Run). r.answer) run_is ∙ ap₂ (λ (f : Ending) (z : Counts). Ok (outcome_of f z)) x y

  within : Within c rows s l
  unfolding begun
  within = record {
    clocks = omega (arith, ap (λ (d : Counts). d.clocks) run_counts, end_allowed);
    cells = omega (arith, ap (λ (d : Counts). d.cells) run_counts, end_stays.good.taken);
    places = subst (λ (n : ℕ). n * width_of t ≤ length l.output) (sym run_firings) (omega (arith, end_stays.good.places, end_stays.output_length));
  }

  kept : Kept c rows s l
  unfolding begun any.ran layout
  kept = record {
    store_length = ap (λ (x : Run). length x.store) run_is ∙ end_stays.store_length;
    store_rest = ap (λ (x : Run). drop (sum t.capacities) x.store) run_is ∙ subst (λ (n : ℕ). drop n end.standing.store ≡ drop n l.store) (all_places t proper ok) end_stays.store_rest;
    output_length = ap (λ (x : Run). length x.output) run_is ∙ end_stays.output_length;
    output_rest = subst (λ (n : ℕ). drop (n * width_of t) (run c rows s l).output ≡ drop (n * width_of t) l.output) (sym run_firings)
        (ap (λ (x : Run). drop (end.standing.done.firings * width_of t) x.output) run_is ∙ end_stays.output_rest (end.standing.done.firings * width_of t) (omega arith));
  }

  reports : (e : Ending) → Reports (outcome_of e) (run c rows s l) ↔ Means t l (counters_of t.count (run c rows s l).state) (answer_counts (run c rows s l).answer) e
  reports e = (
    λ r.
        subst₂ (λ (n : Counters) (d : Counts). Means t l n d e) (sym run_counters) (sym run_counts)
        (subst (Means t l end.standing.counters end.standing.done)
        (sym (answered_back end.ending end.standing.done) ∙ ap answered (sym (run_answer end.ending end.standing.done refl refl) ∙ r.answer) ∙ answered_back e r.counts) end_means),
    λ m. record {
      counts = end.standing.done;
      answer = run_answer e end.standing.done (end_one e (subst₂ (λ (n : Counters) (d : Counts). Means t l n d e) run_counters run_counts m)) refl;
    },
  )

  judged_again : (store : List ℕ) → short_store t store ≡ false → Judged t (run c rows s l).state store
  unfolding run_of
  judged_again = any.judged_again t proper s l.store l.cells l.output l.allowance j

  accepted_again : judge_run t (run c rows s l).state (run c rows s l).store ≡ Ok tt
  unfolding run_of
  accepted_again = any.accepted_again t proper s l.store l.cells l.output l.allowance j

  -- A call where there is no clock to make.
  dead_answer : live (layout t) (counters_of t.count s) ≡ false → (e : Ending) → Means t l (counters_of t.count s) no_counts e → (run c rows s l).answer ≡ Ok (outcome_of e no_counts)
  unfolding ended begun
  dead_answer dead e m =
      let still = no_clock (layout t) (written_by t) (width_of t) l.cells l.allowance start (ap length (still_traced (layout t) end_counted.traced dead)) in
      run_answer e no_counts (end_one e (subst (λ (x : Standing). Means t l x.counters x.done e) (sym still) m)) (ap (λ (x : Standing). x.done) still)

-- Calling again.
module _ (c : Chain) (rows : List ℕ) (s : State) (l : Lent) (j : Judged (trimmed c rows) s l.store) (m : Lent) where
  abbrev handed : Counters
  handed = counters_of (trimmed c rows).count (run c rows s l).state

  after_done : Reports outcome.Done (run c rows s l) → short_store (trimmed c rows) m.store ≡ false → (once_more c rows s l m).answer ≡ Ok (outcome.Done no_counts)
  unfolding outcome_of layout
  after_done r e =
      let all = (reports c rows s l j Done).0 r in
      dead_answer c rows (run c rows s l).state m (judged_again c rows s l j m.store e) (done_dead (trimmed c rows) handed (omega arith)) Done all

  -- After Stalled firings are left and nothing would move, so that the rest is said by what is lent.
  after_stall : Reports outcome.Stalled (run c rows s l) → short_store (trimmed c rows) m.store ≡ false → (e : Ending)
      → (handed.fired < iterations_of (trimmed c rows) → moves (layout (trimmed c rows)) handed ≡ false → Means (trimmed c rows) m handed no_counts e)
      → (once_more c rows s l m).answer ≡ Ok (outcome_of e no_counts)
  unfolding outcome_of
  after_stall r short e means =
      let x = (reports c rows s l j Stalled).0 r in
      dead_answer c rows (run c rows s l).state m (judged_again c rows s l j m.store short) (stalled_dead (trimmed c rows) handed x.3) e (means x.0 x.3)

  called_again : CalledAgain c rows s l m
  unfolding outcome_of
  called_again = record {
    done = after_done;
    stalled = λ r short a b. after_stall r short Stalled (λ left still. (left, a, b, still));
    spent = λ r short a. after_stall r short Spent (λ left still. (left, sym a));
    starved = λ r short a b. after_stall r short Starved (λ left still. (left, a, sym b));
  }

pub any_states : AnyStates
any_states c rows s l e =
    let j = judged_run (trimmed c rows) s l.store e in
    record {
      within = within c rows s l j;
      kept = kept c rows s l j;
      outcome = reports c rows s l j;
      accepted = accepted_again c rows s l j;
      again = called_again c rows s l j;
    }
