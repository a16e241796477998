-- Lists of calls of a pair: the proofs.
use Prim.Native.Nat.{ℕ, zero, suc, ◌+◌, ◌*◌, ◌≤◌, ◌<◌}
use mathlib.Core.Bool.{Bool, true, false, not, cond}
use mathlib.Core.List.{List, [], ◌∷◌, ◌++◌, map, append_assoc}
use mathlib.Core.Path.{◌≡◌, refl, sym, ◌∙◌, ap, ap₂, subst}
use native.Mathlib.Nat.{zero-add, add-zero, zero-mul}
use native.Mathlib.Omega.{arith}
use lib.ListN.{length, get_or, take, drop}
use Rattle.model.specs.Lists.{sum, any}
use Rattle.model.specs.Sized.{Proper}
use Rattle.model.specs.Values.{Trimmed, trimmed}
use Rattle.model.specs.Iterations.{iterations_of, reads_of, position_of, iteration_of, course_of}
use Rattle.model.specs.Answers.{Answer, answer_counts}
use Rattle.model.specs.Judging.{judged, judge_chain}
use Rattle.model_run.specs.Clock.{Layout, first}
use Rattle.model_run.specs.Running.{layout, with_counters, Standing, Ended, outcome_of, short_store, begun, call, events, Run}
use Rattle.model_run.specs.CallLists.{Lending, Between, Fresh, lent_cells, call_run, call_events, after, after_all, runs, firings_made, firings_among}
use Rattle.model_run.specs.Reports.{firings_of}
use Rattle.std.specs.Prelude.{Ok, Err}
use Rattle.model.specs.declared.Counts.{Counts}
use Rattle.model.specs.declared.State.{State}
use Rattle.grid_laws.proofs.ListLaws.{tabulate_same}
use Rattle.grid_laws.proofs.CheckLaws.{some_references}
use Rattle.flow.specs.Machine.{Lawful}
use Rattle.run_laws.proofs.Accepts.{trimmed_proper, accepted}
use Rattle.run_laws.proofs.Layouts.{lawful, wants_read}
use Rattle.run_laws.proofs.Traces.{traced_fired}
use Rattle.run_laws.proofs.Calls.{firing_words, Sound, Wrote, wrote, call_sound, counted}
use Rattle.run_laws.proofs.Between.{Setting, Reached, now, beginning, only_10, sound_start, lent_words, after_reached, fresh_reached, reached_fired}
use Rattle.run_laws.proofs.CallEnds.{outcome_counts_lem}
use Rattle.run_laws.proofs.Words.{fired_after}
use Rattle.demands.specs.Demand3.{ListOfCalls}
use Rattle.model.specs.declared.Refusal.TheVariants as refusal
use Rattle.run_laws.proofs.Calls as calls
use Rattle.grid_laws.proofs.PairPasses.{PairPasses, pair_passes, raw_checks, raw_trimmed}
use Rattle.model.specs.Pairs.{Own, member, raw_of, raw_chain}
use Rattle.model_run.specs.PairLists.{PairLending, raw_lending, pair_call, pair_after, pair_runs, pair_after_all, words_to, own_loop, own_loops}
use Rattle.model_run.specs.PairRuns.{own_words, own_width, judge_pair, pair_ended, pair_output, PairRun, run_pair, own_call, onto}
use Rattle.pair_demands.proofs.PairCalls.{as_raw, own_loop_lem, count_right, first_right, second_right, each_among, first_alone, second_alone}
use Rattle.pair_demands.specs.PairCalls.{Projects, Pair, chain_of_pair, first_own, second_own}
use Rattle.pair_demands.specs.PairLists.{PairLists}
use Rattle.pair_laws.proofs.RawLaws.{raw_layout, Fits}
use Rattle.pair_laws.proofs.SideLaws.{first_fits, second_fits, judged_alike}

-- ---- the raw chain of a pair

raw_reads_of : (t : Trimmed) (j k : ℕ) → reads_of (raw_of t) j k ≡ reads_of t j k
unfolding reads_of raw_of position_of iteration_of course_of
raw_reads_of t j k = refl

module _ (p : Pair) (stream : ℕ → ℕ) where
  abbrev t : Trimmed
  t = chain_of_pair p

  abbrev passed : PairPasses t (first_own p) (second_own p)
  passed = pair_passes t (first_own p) (second_own p) p.accepted

  pub raw_proper : Proper (raw_of t)
  raw_proper = subst Proper (raw_trimmed p.chain p.rows) (trimmed_proper (raw_chain p.chain) p.rows)

  pub raw_judged : judged (raw_of t) ≡ Ok tt
  unfolding judged
  raw_judged = raw_checks t (first_own p) (second_own p) passed

  abbrev pub S : Setting
  S = record { trimmed = raw_of t; proper = raw_proper; accepted = accepted (raw_of t) raw_proper raw_judged; stream = stream }

  -- ---- one call

  module _ (l : PairLending) (x : Between) where
    abbrev m : Lending
    m = raw_lending t (first_own p) (second_own p) stream l

    abbrev lent : List ℕ
    lent = lent_cells t stream m x

    abbrev one : PairRun
    one = pair_call t (first_own p) (second_own p) stream l x

    call_as_raw : (one.answer ≡ (call_run (raw_of t) stream m x).answer) × (one.state ≡ (call_run (raw_of t) stream m x).state) × (one.store ≡ (call_run (raw_of t) stream m x).store)
    unfolding pair_call call_run raw_lending lent_cells raw_of
    call_as_raw =
        let r = as_raw t (first_own p) (second_own p) p.accepted x.state (take l.front x.store) lent l.first l.second l.allowance in
        (r.answer, r.state, r.words)

    pub after_as_raw : pair_after t (first_own p) (second_own p) stream l x ≡ after (raw_of t) stream m x
    unfolding pair_after after raw_lending
    after_as_raw = ap₂ (λ (s : State) (w : List ℕ). let z : Between = record { state = s; store = w ++ drop l.front x.store } in z) call_as_raw.1 call_as_raw.2

    abbrev front : List ℕ
    front = take l.front x.store

    abbrev made : ℕ
    made = (answer_counts one.answer).firings

    -- One of the two kernels, with its output.
    module _ (c : Own) (output : List ℕ) (fits : Fits t c) {es : List Bool} (r : Reached S x es) (enough : short_store (raw_of t) front ≡ false) (left : ℕ) where
      abbrev L : Layout
      L = layout (raw_of t)

      abbrev from : Standing
      from = begun (raw_of t) x.state front output

      abbrev own : Ended
      own = call L (own_words t c) (own_width c) lent left from

      abbrev own_events : List Bool
      own_events = events L (own_words t c) (own_width c) lent left from

      same_lent : lent_cells (raw_of t) stream m x ≡ lent
      unfolding lent_cells raw_of
      same_lent = refl

      lent_is : (i : ℕ) → i < length lent → get_or lent i 0 ≡ stream (first (now S x).passed + i)
      unfolding lent_cells raw_of
      lent_is = lent_words S m x

      abbrev lawfully : Lawful L
      lawfully = lawful (raw_of t) raw_proper S.accepted

      abbrev SoundOwn : Standing → Type 0
      SoundOwn = Sound L lawfully (own_words t c) (own_width c) lent stream (first (now S x).passed) lent_is (λ ws _. fits.long ws)

      sound_own : SoundOwn from
      unfolding beginning begun raw_of raw_lending
      sound_own = let s = sound_start S m x r enough in record { invariant = s.invariant; taken = s.taken; held = s.held; room = s.room }

      own_wrote : Wrote L lawfully (own_words t c) (own_width c) lent stream (first (now S x).passed) lent_is (λ ws _. fits.long ws) from own own_events
      own_wrote = wrote L lawfully (own_words t c) (own_width c) lent stream (first (now S x).passed) lent_is (λ ws _. fits.long ws) left from sound_own

      -- Its words are those of the author's own loop.
      module _ (among : any (λ o. not (member t.offsets o)) c.offsets ≡ false) (right : length c.offsets ≡ c.count) where
        loops : (j n : ℕ) → j + n ≤ iterations_of (raw_of t)
            → calls.words_from L lawfully (own_words t c) (own_width c) lent stream (first (now S x).passed) lent_is (λ ws _. fits.long ws) j n ≡ own_loops t c stream j n
        unfolding calls.words_from firing_words own_loops layout raw_of trimmed
        loops j zero h = refl
        loops j (suc n) h =
            ap₂ (λ (v w : List ℕ). v ++ w)
            (ap (own_words t c) (tabulate_same t.count _ _ (λ k _. ap stream (wants_read (raw_of t) raw_proper S.accepted j k (omega arith) ∙ raw_reads_of t j k)))
            ∙ own_loop_lem t c (count_right p) right among stream j)
            (loops (suc j) n (omega arith))

        own_words_lem : take (own.standing.done.firings * own_width c) own.standing.output ≡ own_loops t c stream (now S x).fired own.standing.done.firings
        unfolding begun layout
        own_words_lem =
            let k = firings_among own_events in
            let n = counted L (own_words t c) (own_width c) lent left from in
            let made : own.standing.done.firings ≡ k = n.firings ∙ add-zero k in
            let fired = traced_fired L n.traced in
            let most = (call_sound L lawfully (own_words t c) (own_width c) lent stream (first (now S x).passed) lent_is (λ ws _. fits.long ws) left from sound_own).invariant.most in
            ap (λ (i : ℕ). take (i * own_width c) own.standing.output) (made ∙ sym (zero-add k)) ∙ own_wrote.written
            ∙ ap (λ (i : ℕ). take i output ++ calls.words_from L lawfully (own_words t c) (own_width c) lent stream (first (now S x).passed) lent_is (λ ws _. fits.long ws) (now S x).fired k) (zero-mul (own_width c))
            ∙ loops (now S x).fired k (omega arith) ∙ ap (own_loops t c stream (now S x).fired) (sym made)

    -- What the call gives one of its kernels, where 10 does not turn it back,
    module _ {es : List Bool} (r : Reached S x es) where
      abbrev end : Ended
      end = pair_ended t (first_own p) (second_own p) x.state front lent l.first l.second l.allowance

      abbrev output_of : Own → List ℕ → List ℕ
      output_of c output = pair_output t (first_own p) (second_own p) x.state front lent l.first l.second l.allowance c output

      given : (c : Own) (output : List ℕ) → Fits t c → any (λ o. not (member t.offsets o)) c.offsets ≡ false → length c.offsets ≡ c.count → short_store (raw_of t) front ≡ false
          → Projects t (first_own p) (second_own p) x.state front lent l.first l.second l.allowance c output
          → take (end.standing.done.firings * own_width c) (output_of c output) ≡ own_loops t c stream (now S x).fired end.standing.done.firings
      unfolding own_call begun raw_of trimmed
      given c output fits among right enough alone =
          let own : (call (layout (raw_of t)) (own_words t c) (own_width c) lent end.standing.done.clocks (begun (raw_of t) x.state front output)).standing ≡ onto end.standing (output_of c output) =
          rw (raw_layout t) alone in
          sym (ap (λ (y : Standing). take (y.done.firings * own_width c) y.output) own)
          ∙ own_words_lem c output fits r enough end.standing.done.clocks among right
          ∙ ap (λ (y : Standing). own_loops t c stream (now S x).fired y.done.firings) own

      judged_10 : judge_pair t (first_own p) (second_own p) x.state front ≡ cond (short_store (raw_of t) front) (Err refusal.ShortStore) (Ok tt)
      judged_10 = judged_alike t (first_own p) (second_own p) x.state front p.accepted ∙ only_10 S r front

      one_is : short_store (raw_of t) front ≡ false → one ≡ record {
        answer = Ok (outcome_of end.ending end.standing.done);
        state = with_counters x.state end.standing.counters;
        store = end.standing.store;
        first = output_of (first_own p) l.first;
        second = output_of (second_own p) l.second;
      }
      unfolding pair_call run_pair
      one_is y = rw (judged_10, y) refl

      made_is : short_store (raw_of t) front ≡ false → made ≡ end.standing.done.firings
      unfolding answer_counts
      made_is y = ap (λ (q : PairRun). (answer_counts q.answer).firings) (one_is y) ∙ ap (λ (d : Counts). d.firings) (outcome_counts_lem end.ending end.standing.done)

      made_none : short_store (raw_of t) front ≡ true → made ≡ 0
      unfolding answer_counts pair_call run_pair
      made_none y = ap (λ (q : Answer). (answer_counts q).firings) (let z : one.answer ≡ Err refusal.ShortStore = rw (judged_10, y) refl in z)

      -- and where it does.
      pub to_first : take (made * own_width (first_own p)) one.first ≡ own_loops t (first_own p) stream (now S x).fired made
      unfolding own_loops
      to_first = go (short_store (raw_of t) front) refl judged_10
        where
          go : (y : Bool) → short_store (raw_of t) front ≡ y → judge_pair t (first_own p) (second_own p) x.state front ≡ cond (short_store (raw_of t) front) (Err refusal.ShortStore) (Ok tt)
              → take (made * own_width (first_own p)) one.first ≡ own_loops t (first_own p) stream (now S x).fired made
          go true y j = ap (λ (k : ℕ). take (k * own_width (first_own p)) one.first) (made_none y) ∙ ap (λ (k : ℕ). take k one.first) (zero-mul (own_width (first_own p))) ∙ ap (own_loops t (first_own p) stream (now S x).fired) (sym (made_none y))
          go false y j =
              let some = some_references t.count passed.count in
              let fa = first_fits t (first_own p) (second_own p) (first_right p) (second_right p) passed in
              let fb = second_fits t (first_own p) (second_own p) (first_right p) (second_right p) passed in
              let is = one_is y in
              ap₂ (λ (k : ℕ) (w : List ℕ). take (k * own_width (first_own p)) w) (made_is y) (ap (λ (q : PairRun). q.first) is)
              ∙ given (first_own p) l.first fa (each_among p).0 (first_right p) y (first_alone t some x.state front lent l.allowance (first_own p) (second_own p) fa fb l.first l.second)
              ∙ ap (own_loops t (first_own p) stream (now S x).fired) (sym (made_is y))

      pub to_second : take (made * own_width (second_own p)) one.second ≡ own_loops t (second_own p) stream (now S x).fired made
      unfolding own_loops
      to_second = go (short_store (raw_of t) front) refl judged_10
        where
          go : (y : Bool) → short_store (raw_of t) front ≡ y → judge_pair t (first_own p) (second_own p) x.state front ≡ cond (short_store (raw_of t) front) (Err refusal.ShortStore) (Ok tt)
              → take (made * own_width (second_own p)) one.second ≡ own_loops t (second_own p) stream (now S x).fired made
          go true y j = ap (λ (k : ℕ). take (k * own_width (second_own p)) one.second) (made_none y) ∙ ap (λ (k : ℕ). take k one.second) (zero-mul (own_width (second_own p))) ∙ ap (own_loops t (second_own p) stream (now S x).fired) (sym (made_none y))
          go false y j =
              let some = some_references t.count passed.count in
              let fa = first_fits t (first_own p) (second_own p) (first_right p) (second_right p) passed in
              let fb = second_fits t (first_own p) (second_own p) (first_right p) (second_right p) passed in
              let is = one_is y in
              ap₂ (λ (k : ℕ) (w : List ℕ). take (k * own_width (second_own p)) w) (made_is y) (ap (λ (q : PairRun). q.second) is)
              ∙ given (second_own p) l.second fb (each_among p).1 (second_right p) y (second_alone t some x.state front lent l.allowance (first_own p) (second_own p) fa fb l.first l.second)
              ∙ ap (own_loops t (second_own p) stream (now S x).fired) (sym (made_is y))

  -- ---- lists

  abbrev raws : List PairLending → List Lending
  raws ls = map (raw_lending t (first_own p) (second_own p) stream) ls

  pub list_answers : (ls : List PairLending) (x : Between) → map (λ (r : PairRun). r.answer) (pair_runs t (first_own p) (second_own p) stream ls x) ≡ map (λ (r : Run). r.answer) (runs (raw_of t) stream (raws ls) x)
  unfolding pair_runs runs
  list_answers [] x = refl
  list_answers (l ∷ ls) x = ap₂ ◌∷◌ (call_as_raw l x).0 (list_answers ls (pair_after t (first_own p) (second_own p) stream l x) ∙ ap (λ (y : Between). map (λ (r : Run). r.answer) (runs (raw_of t) stream (raws ls) y)) (after_as_raw l x))

  pub list_after : (ls : List PairLending) (x : Between) → pair_after_all t (first_own p) (second_own p) stream ls x ≡ after_all (raw_of t) stream (raws ls) x
  unfolding pair_after_all after_all
  list_after [] x = refl
  list_after (l ∷ ls) x = list_after ls (pair_after t (first_own p) (second_own p) stream l x) ∙ ap (after_all (raw_of t) stream (raws ls)) (after_as_raw l x)

  loops_join : (c : Own) (j m n : ℕ) → own_loops t c stream j m ++ own_loops t c stream (j + m) n ≡ own_loops t c stream j (m + n)
  unfolding own_loops
  loops_join c j zero n = ap (λ (i : ℕ). own_loops t c stream i n) (add-zero j) ∙ ap (own_loops t c stream j) (sym (zero-add n))
  loops_join c j (suc m) n =
      let e : j + suc m ≡ suc j + m = omega arith in
      let d : suc (m + n) ≡ suc m + n = omega arith in
      append_assoc (own_loop t c stream j) (own_loops t c stream (suc j) m) (own_loops t c stream (j + suc m) n)
      ∙ ap (λ (w : List ℕ). own_loop t c stream j ++ w) (ap (λ (i : ℕ). own_loops t c stream (suc j) m ++ own_loops t c stream i n) e ∙ loops_join c (suc j) m n)
      ∙ ap (own_loops t c stream j) d

  list_to : (c : Own) (out : PairRun → List ℕ)
      → ((l : PairLending) (x : Between) (es : List Bool) → Reached S x es → take (made l x * own_width c) (out (one l x)) ≡ own_loops t c stream (now S x).fired (made l x))
      → (ls : List PairLending) (x : Between) (es : List Bool) → Reached S x es
      → words_to t (first_own p) (second_own p) stream c out ls x ≡ own_loops t c stream (now S x).fired (firings_made (runs (raw_of t) stream (raws ls) x))
  unfolding words_to runs firings_made sum own_loops
  list_to c out each [] x es r = refl
  list_to c out each (l ∷ ls) x es r =
      let m = raw_lending t (first_own p) (second_own p) stream l in
      let y = after (raw_of t) stream m x in
      let rest = firings_made (runs (raw_of t) stream (raws ls) y) in
      let same : made l x ≡ firings_of (call_run (raw_of t) stream m x) = ap (λ (q : Answer). (answer_counts q).firings) (call_as_raw l x).0 in
      ap₂ (λ (v w : List ℕ). v ++ w) (each l x es r ∙ ap (own_loops t c stream (now S x).fired) same)
      (ap (words_to t (first_own p) (second_own p) stream c out ls) (after_as_raw l x) ∙ list_to c out each ls y (es ++ call_events (raw_of t) stream m x) (after_reached S m x r)
      ∙ ap (λ (j : ℕ). own_loops t c stream j rest) (fired_after S m x r))
      ∙ loops_join c (now S x).fired (firings_of (call_run (raw_of t) stream m x)) rest

pub pair_lists : PairLists
unfolding judge_chain firings_among
pair_lists q =
    let p = q.pair in
    let t = chain_of_pair p in
    let same = raw_trimmed p.chain p.rows in
    let st : Fresh (raw_of t) q.start = record { counters = rw (raw_layout t) (unfold raw_of in q.fresh.counters) } in
    let r : ListOfCalls = record {
      chain = raw_chain p.chain;
      rows = p.rows;
      accepted = subst (λ (z : Trimmed). judged z ≡ Ok tt) (sym same) (raw_judged p q.stream);
      stream = q.stream;
      start = q.start;
      fresh = subst (λ (z : Trimmed). Fresh z q.start) (sym same) st;
      calls = map (raw_lending t (first_own p) (second_own p) q.stream) q.calls;
    } in
    let z = fresh_reached (S p q.stream) q.start st in
    let none : (now (S p q.stream) q.start).fired ≡ 0 = reached_fired (S p q.stream) z in (
      r,
      record {
        chain = refl;
        rows = refl;
        stream = refl;
        start = refl;
        calls = refl;
        answers = rw same (list_answers p q.stream q.calls q.start);
        handed_on_lem = rw same (list_after p q.stream q.calls q.start);
        first = rw same (list_to p q.stream (first_own p) (λ x. x.first) (λ l x es h. to_first p q.stream l x h) q.calls q.start [] z
            ∙ ap (λ (j : ℕ). own_loops t (first_own p) q.stream j (firings_made (runs (raw_of t) q.stream (raws p q.stream q.calls) q.start))) none);
        second = rw same (list_to p q.stream (second_own p) (λ x. x.second) (λ l x es h. to_second p q.stream l x h) q.calls q.start [] z
            ∙ ap (λ (j : ℕ). own_loops t (second_own p) q.stream j (firings_made (runs (raw_of t) q.stream (raws p q.stream q.calls) q.start))) none);
      },
    )
