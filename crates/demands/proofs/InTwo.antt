-- A call in two parts.
use Prim.Native.Nat.{ℕ, ◌+◌, ◌-◌, ◌*◌}
use mathlib.Core.Bool.{Bool, false}
use mathlib.Core.List.{List, [], ◌∷◌, ◌++◌, append_assoc}
use mathlib.Core.Path.{◌≡◌, refl, sym, ◌∙◌, ap, ap₂, subst}
use native.Mathlib.Omega.{arith}
use lib.ListN.{length, take, length-append}
use Rattle.model.specs.Lists.{sum}
use Rattle.model.specs.Values.{Trimmed}
use Rattle.model.specs.Answers.{answer_counts}
use Rattle.model_run.specs.Clock.{Counters}
use Rattle.model_run.specs.Running.{layout, counters_of, written_by, width_of, begun, Ending, outcome_of, short_store, Run}
use Rattle.model_run.specs.CallLists.{Lending, Between, lent_cells, call_run, call_events, after, after_all, all_events, all_words, runs, firings_among, firings_made}
use Rattle.model_run.specs.Words.{words_from}
use Rattle.model_run.specs.Reports.{Reports, firings_of, clocks_of}
use Rattle.model.specs.declared.Counts.{Counts}
use Rattle.run_laws.proofs.Between.{Setting, Reached, now, beginning, ending, clocks, ran, after_reached, now_after, lent_length}
use Rattle.run_laws.proofs.CallEnds.{outcome_counts_lem, call_clocks, call_firings, not_short, not_short_events}
use Rattle.run_laws.proofs.CallSums.{firings_append}
use Rattle.demands.specs.Demand3.{ListOfCalls, events_of, handed_on, one_more, chain_in}
use Rattle.demands.proofs.Finishing.{setting, reached, start}
use Rattle.demands.proofs.SameHandedOn.{long_after, same_after}
use Rattle.demands.proofs.Words.{list_words}
use Rattle.demands.specs.Promises.{again, InPlaceOf, InTwo}
use Rattle.run_laws.proofs.Halves.{Made, moved, one_way, in_two, call_made}

module _ (S : Setting) (l : Lending) (b : Between) {es : List Bool} (r : Reached S b es) (e : short_store S.trimmed (take l.front b.store) ≡ false) where
  open S use {trimmed as t, stream}

  -- What a call of a list did, by what it was lent.
  pub did : Made (layout t) (width_of t) l.allowance l.cells (length l.output) (now S b) (ending S l b).standing.done.cells ((ending S l b).standing.done.firings * width_of t) (clocks S l b)
      (ending S l b).standing.counters (ending S l b).ending
  unfolding beginning begun ending clocks
  did =
      let c = call_made (layout t) (written_by t) (width_of t) (lent_cells t stream l b) l.allowance (beginning S l b) (omega arith) in
      moved (layout t) (width_of t) refl (omega (arith, lent_length S l b)) (omega arith) (omega (arith, c.taken)) (omega (arith, c.fired)) c.made

  -- Its counts.
  pub counts : answer_counts (call_run t stream l b).answer ≡ (ending S l b).standing.done
  unfolding answer_counts ran
  counts = ap (λ (x : Run). answer_counts x.answer) (not_short S l b r e) ∙ outcome_counts_lem (ending S l b).ending (ending S l b).standing.done

  pub reports : Reports (outcome_of (ending S l b).ending) (call_run t stream l b)
  unfolding ran
  reports = record { counts = (ending S l b).standing.done; answer = ap (λ (x : Run). x.answer) (not_short S l b r e) }

  -- Its clocks and firings, and the counters that it leaves.
  pub its_clocks : clocks_of (call_run t stream l b) ≡ length (clocks S l b)
  its_clocks = call_clocks S l b r ∙ ap length (not_short_events S l b r e)

  pub its_firings : firings_of (call_run t stream l b) ≡ firings_among (clocks S l b)
  its_firings = call_firings S l b r ∙ ap firings_among (not_short_events S l b r e)

  pub its_counters : counters_of t.count (call_run t stream l b).state ≡ (ending S l b).standing.counters
  unfolding after
  its_counters = now_after S l b r e

module _ (q : ListOfCalls) (l m n : Lending) (h : InPlaceOf q l m n) where
  abbrev S : Setting
  S = setting q

  abbrev t : Trimmed
  t = chain_in q

  abbrev b : Between
  b = handed_on q

  abbrev b' : Between
  b' = after t q.stream m b

  abbrev r' : Reached S b' (events_of q ++ call_events t q.stream m b)
  r' = after_reached S m b (reached q)

  second : Made (layout t) (width_of t) (l.allowance - length (clocks S m b)) (l.cells - (ending S m b).standing.done.cells) (length l.output - (ending S m b).standing.done.firings * width_of t)
      (ending S m b).standing.counters (ending S n b').standing.done.cells ((ending S n b').standing.done.firings * width_of t) (clocks S n b') (ending S n b').standing.counters (ending S n b').ending
  second =
      let c = counts S m b (reached q) h.first_store in
      moved (layout t) (width_of t)
      (h.other_clocks ∙ ap (λ (x : ℕ). l.allowance - x) (its_clocks S m b (reached q) h.first_store))
      (h.other_cells ∙ ap (λ (x : Counts). l.cells - x.cells) c)
      (h.other_places ∙ ap (λ (x : Counts). length l.output - x.firings * width_of t) c) refl refl
      (subst (λ (x : Counters). Made (layout t) (width_of t) n.allowance n.cells (length n.output) x (ending S n b').standing.done.cells ((ending S n b').standing.done.firings * width_of t) (clocks S n b') (ending S n b').standing.counters (ending S n b').ending)
      (now_after S m b (reached q) h.first_store) (did S n b' r' h.second_store))

  alike : (clocks S l b ≡ clocks S m b ++ clocks S n b') × ((ending S l b).standing.counters ≡ (ending S n b').standing.counters) × ((ending S l b).ending ≡ (ending S n b').ending)
  alike =
      one_way (layout t) (width_of t) (did S l b (reached q) h.store)
      (in_two (layout t) (width_of t) (did S m b (reached q) h.first_store) h.clocks h.cells h.places second)

pub in_two_calls : (q : ListOfCalls) (l m n : Lending) → InPlaceOf q l m n → InTwo q l m n
unfolding after after_all all_events all_words runs firings_made sum
in_two_calls q l m n h =
    let S = setting q in
    let t = chain_in q in
    let b = handed_on q in
    let r = reached q in
    let b' = after t q.stream m b in
    let r' = after_reached S m b r in
    let (es, s, e) = alike q l m n h in
    let firings : firings_of (one_more q l) ≡ firings_of (one_more q m) + firings_of (again q m n)
    = its_firings S l b r h.store ∙ ap firings_among es ∙ firings_append (clocks S m b) (clocks S n b')
    ∙ ap₂ (λ (x y : ℕ). x + y) (sym (its_firings S m b r h.first_store)) (sym (its_firings S n b' r' h.second_store)) in
    let counters = its_counters S l b r h.store ∙ s ∙ sym (its_counters S n b' r' h.second_store) in
    record {
      clocks = its_clocks S l b r h.store ∙ ap length es ∙ length-append (clocks S m b) (clocks S n b')
          ∙ ap₂ (λ (x y : ℕ). x + y) (sym (its_clocks S m b r h.first_store)) (sym (its_clocks S n b' r' h.second_store));
      firings = firings;
      counters = counters;
      outcome = record {
        ending = (ending S l b).ending;
        first = reports S l b r h.store;
        second = subst (λ (x : Ending). Reports (outcome_of x) (again q m n)) (sym e) (reports S n b' r' h.second_store);
      };
      words = list_words S (l ∷ []) b (events_of q) r ∙ ap (words_from t q.stream (now S b).fired) (omega (arith, firings)) ∙ sym (list_words S (m ∷ n ∷ []) b (events_of q) r);
      handed_on_lem = λ long.
          same_after S (l ∷ []) (m ∷ n ∷ []) b (events_of q) r (long_after S q.calls q.start [] (start q) long)
          (ap (λ (fs : List Bool). fs ++ []) (not_short_events S l b r h.store ∙ es) ∙ append_assoc (clocks S m b) (clocks S n b') []
          ∙ ap₂ (λ (fs gs : List Bool). fs ++ (gs ++ [])) (sym (not_short_events S m b r h.first_store)) (sym (not_short_events S n b' r' h.second_store)))
          counters;
    }
