-- The other promises of document 01: the shorter proofs.
use Prim.Native.Nat.{ℕ}
use mathlib.Core.Bool.{true}
use mathlib.Core.List.{List, [], ◌∷◌, ◌++◌, map}
use mathlib.Core.Logic.{◌⊎◌, inl, inr}
use mathlib.Core.Path.{◌≡◌, refl, sym, ◌∙◌, ap, ap₂, subst}
use native.Mathlib.Omega.{arith}
use lib.ListN.{length, take, drop, length-map}
use lib.Seq.{drop_at}
use Rattle.model.specs.Values.{Trimmed, trimmed}
use Rattle.model.specs.Answers.{Verdict, no_counts, answer_number, answer_counts, number_of, check, first_of, by_verdict}
use Rattle.model.specs.Judging.{value_checks, judge_chain, judged}
use Rattle.model_run.specs.Clock.{Counters, fresh}
use Rattle.model_run.specs.Running.{layout, counters_of, with_counters, written_by, width_of, outcome_of, short_store, bad_state, judge_run, begun, call, ended, run_trimmed, run_of, Standing, Ended, Run}
use Rattle.model_run.specs.CallLists.{clocks_made, firings_made, firings_among, all_words}
use Rattle.model.specs.declared.CellsPassed.{CellsPassed}
use Rattle.model.specs.declared.State.{State}
use Rattle.model.specs.declared.Refusal.{Refusal}
use Rattle.model.specs.declared.Refusal.TheVariants as refusal
use Rattle.std.specs.Prelude.{Ok, Err}
use Rattle.flow.proofs.Laws.{few_clocks}
use Rattle.demands.specs.Demand3.{ListOfCalls, runs_of, events_of, handed_on, chain_in}
use Rattle.model_run.specs.Words.{words_from}
use Rattle.demands.specs.Promises.{FewClocks, NeverStale, SameRun, Split, RefusedKeeps, RunsAlike, NoPart, PastCount, Alike}
use Rattle.run_laws.proofs.Layouts.{lawful}
use Rattle.run_laws.proofs.Lengths.{length_ended}
use Rattle.run_laws.proofs.Traces.{Traced, traced_ran, traced_same}
use Rattle.run_laws.proofs.Between.{refused, ran, by_call, counters_back}
use Rattle.demands.proofs.Finishing.{setting, reached, numbered}
use Rattle.demands.proofs.Again.{enough_over}
use Rattle.demands.proofs.SameHandedOn.{same_handed}
use Rattle.demands.proofs.Pieces.{ends_alike}
use Rattle.demands.proofs.Words.{demand_2}

module _ (q : ListOfCalls) where
  pub clocks_few : FewClocks q
  unfolding layout
  clocks_few = omega (arith, few_clocks (layout (chain_in q)) (lawful (chain_in q) (setting q).proper (setting q).accepted) (traced_ran (layout (chain_in q)) (reached q).traced), (numbered q).clocks)

  pub never_stale : NeverStale q
  unfolding refused ran answer_number number_of
  never_stale l =
      by_call (setting q) l (handed_on q) (reached q)
      (λ x _. (answer_number x.answer ≡ 0) ⊎ ((answer_number x.answer ≡ 10) × (short_store (chain_in q) (take l.front (handed_on q).store) ≡ true)))
      (λ s. inr (refl, s)) (λ _. inl refl)

-- Two lists on one chain and one stream.
module _ (p q : ListOfCalls) (same : SameRun p q) where
  -- The second list's clocks, on the first one's layout.
  other : Traced (layout (chain_in p)) (fresh (layout (chain_in p))) (events_of q) (counters_of (chain_in q).count (handed_on q).state)
  other = subst (λ (t : Trimmed). Traced (layout t) (fresh (layout t)) (events_of q) (counters_of (chain_in q).count (handed_on q).state)) (sym same.chain) (reached q).traced

  same_clocks : clocks_made (runs_of p) ≡ clocks_made (runs_of q)
      → (events_of p ≡ events_of q) × (counters_of (chain_in p).count (handed_on p).state ≡ counters_of (chain_in q).count (handed_on q).state)
  same_clocks e = traced_same (layout (chain_in p)) (reached p).traced other ((numbered p).clocks ∙ e ∙ sym (numbered q).clocks)

  same_firings : clocks_made (runs_of p) ≡ clocks_made (runs_of q) → firings_made (runs_of p) ≡ firings_made (runs_of q)
  same_firings e = sym (numbered p).firings ∙ ap firings_among (same_clocks e).0 ∙ (numbered q).firings

  same_words : clocks_made (runs_of p) ≡ clocks_made (runs_of q)
      → all_words (chain_in p) p.stream p.calls p.start ≡ all_words (chain_in q) q.stream q.calls q.start
  same_words e =
      (demand_2 p).words ∙ ap (λ (n : ℕ). words_from (chain_in p) p.stream 0 n) (same_firings e)
      ∙ ap₂ (λ (t : Trimmed) (s : ℕ → ℕ). words_from t s 0 (firings_made (runs_of q))) same.chain same.stream ∙ sym (demand_2 q).words

pub split : (p q : ListOfCalls) → Split p q
split p q = record {
  counters = λ s e. (same_clocks p q s e).1;
  firings = same_firings p q;
  words = same_words p q;
  handed_on_lem = same_handed p q;
  ends = λ s l m h g. ends_alike p q s l m (enough_over (setting p) l (handed_on p) (reached p) h) (enough_over (setting q) m (handed_on q) (reached q) g);
}

-- A run call of any value on any state, by its two ways.
module _ (t : Trimmed) (s : State) (store lent output : List ℕ) (allowance : ℕ) where
  abbrev accepted_run : Run
  accepted_run =
      let e = ended t s store lent output allowance in
      record {
        answer = Ok (outcome_of e.ending e.standing.done);
        state = with_counters s e.standing.counters;
        store = e.standing.store;
        output = e.standing.output;
      }

  by_run : (P : Run → Type 0) → P accepted_run → ((y : Refusal) → P (record { answer = Err y; state = s; store = store; output = output }))
      → P (run_trimmed t s store lent output allowance)
  unfolding run_trimmed
  by_run P ran-well turned_back_lem = go (judge_run t s store)
    where
      go : (v : Verdict) → P (by_verdict v accepted_run (λ y. record { answer = Err y; state = s; store = store; output = output }))
      go (Ok _) = ran-well
      go (Err y) = turned_back_lem y

pub refused_keeps : RefusedKeeps
unfolding run_of answer_counts
refused_keeps c rows s store lent output allowance x =
    by_run (trimmed c rows) s store lent output allowance
    (λ r. r.answer ≡ Err x → (r.state ≡ s) × (r.store ≡ store) × (r.output ≡ output) × (answer_counts r.answer ≡ no_counts))
    (λ e. absurd (let z : ◌≡◌ {A = ℕ} 0 1 = cc in omega arith)) (λ y e. (refl, refl, refl, refl))

pub past_count : PastCount
unfolding run_of with_counters trimmed
past_count c rows s store lent output allowance =
    by_run (trimmed c rows) s store lent output allowance (λ r. drop c.window.count r.state.passed ≡ drop c.window.count s.passed)
    (rw n (drop_at (map (λ (p : ℕ). let passed : CellsPassed = record { 0 = p } in passed) last.passed) (drop c.window.count s.passed) c.window.count
    (length-map last.passed _ ∙ n))) (λ y. refl)
  where
    last : Counters
    last = (ended (trimmed c rows) s store lent output allowance).standing.counters

    n : length last.passed ≡ c.window.count
    n = length_ended (trimmed c rows) s store lent output allowance

-- Judging and the call go by the counters of the n filters alone.
judged_by : (t : Trimmed) (store : List ℕ) (s s' : State) → counters_of t.count s ≡ counters_of t.count s' → judge_run t s store ≡ judge_run t s' store
unfolding judge_run
judged_by t store s s' e =
    ap (λ (k : Counters). first_of (value_checks t ++ (check (short_store t store) refusal.ShortStore ∷ check (bad_state (layout t) k) refusal.BadState ∷ []))) e

ended_by : (t : Trimmed) (store lent output : List ℕ) (allowance : ℕ) (s s' : State) → counters_of t.count s ≡ counters_of t.count s'
    → ended t s store lent output allowance ≡ ended t s' store lent output allowance
unfolding ended begun
ended_by t store lent output allowance s s' e =
    ap (λ (k : Counters).
    let from : Standing = record { counters = k; store = store; output = output; done = no_counts } in call (layout t) (written_by t) (width_of t) lent allowance from) e

no_part_of : (t : Trimmed) (s s' : State) (store lent output : List ℕ) (allowance : ℕ) → counters_of t.count s ≡ counters_of t.count s'
    → RunsAlike t.count (run_trimmed t s store lent output allowance) (run_trimmed t s' store lent output allowance)
unfolding run_trimmed
no_part_of t s s' store lent output allowance e =
    subst (λ (v : Verdict). RunsAlike t.count (run_trimmed t s store lent output allowance) (by_verdict_lem s' v)) same_verdict (go (judge_run t s store))
  where
    by_verdict_lem : State → Verdict → Run
    by_verdict_lem x v = by_verdict v (accepted_run t x store lent output allowance) (λ y. record { answer = Err y; state = x; store = store; output = output })

    same_verdict : judge_run t s store ≡ judge_run t s' store
    same_verdict = judged_by t store s s' e

    same_end : ended t s store lent output allowance ≡ ended t s' store lent output allowance
    same_end = ended_by t store lent output allowance s s' e

    back : (x : State) → counters_of t.count (with_counters x (ended t x store lent output allowance).standing.counters) ≡ (ended t x store lent output allowance).standing.counters
    back x = counters_back t.count x (ended t x store lent output allowance).standing.counters (length_ended t x store lent output allowance)

    go : (v : Verdict) → RunsAlike t.count (by_verdict_lem s v) (by_verdict_lem s' v)
    go (Ok _) = record {
      answer = ap (λ (x : Ended). Ok (outcome_of x.ending x.standing.done)) same_end;
      store = ap (λ (x : Ended). x.standing.store) same_end;
      output = ap (λ (x : Ended). x.standing.output) same_end;
      counters = back s ∙ ap (λ (x : Ended). x.standing.counters) same_end ∙ sym (back s');
    }
    go (Err y) = record { answer = refl; store = refl; output = refl; counters = e }

pub no_part : NoPart
unfolding run_of trimmed
no_part c rows s s' store lent output allowance e = no_part_of (trimmed c rows) s s' store lent output allowance e

pub alike : Alike
unfolding judge_chain run_of
alike c d rows rows' e = (ap judged e, λ s store lent output allowance. ap (λ (t : Trimmed). run_trimmed t s store lent output allowance) e)
