-- What a list of calls hands on, whole: the state that it started with, with the counters of its clocks, and the store with what these clocks put into it.
use Prim.Native.Nat.{ℕ, zero, suc, ◌+◌, ◌-◌, ◌≤◌, ◌<◌}
use mathlib.Core.Bool.{Bool, false}
use mathlib.Core.List.{List, [], ◌∷◌, ◌++◌, map}
use mathlib.Core.Path.{◌≡◌, refl, sym, ◌∙◌, ap, ap₂}
use native.Mathlib.Omega.{arith}
use lib.ListN.{length, get_or, take, drop, take-append-drop, length-append, length-map}
use Rattle.model.specs.Lists.{tabulate}
use Rattle.model.specs.Values.{Trimmed}
use Rattle.model_run.specs.Clock.{Layout, Counters, first, next}
use Rattle.model_run.specs.Store.{first_place, stored}
use Rattle.model_run.specs.Running.{layout, counters_of, with_counters, Standing, goes, call, events, clocked, short_store, begun, written_by, width_of}
use Rattle.model_run.specs.CallLists.{Lending, Between, lent_cells, call_events, after, after_all, runs, all_events, clocks_made}
use Rattle.model.specs.declared.CellsPassed.{CellsPassed}
use Rattle.model.specs.declared.State.{State}
use Rattle.grid_laws.proofs.ListLaws.{length_tabulate}
use Rattle.flow.specs.Machine.{Lawful, Invariant}
use Rattle.flow.proofs.Laws.{live_yes}
use Rattle.flow.proofs.Invariant.{next_invariant}
use Rattle.demands.specs.Demand3.{ListOfCalls, runs_of, handed_on, chain_in}
use Rattle.demands.specs.Promises.{SameRun, SameStart}
use Rattle.run_laws.proofs.Layouts.{lawful, all_places}
use Rattle.run_laws.proofs.Looks.{Looked, is_going, along_call}
use Rattle.run_laws.proofs.Traces.{Traced, traced_same}
use Rattle.run_laws.proofs.Traces as trace
use Rattle.run_laws.proofs.Held.{Held, next_steps, holds_length}
use Rattle.run_laws.proofs.Calls.{Sound, clocked_sound}
use Rattle.run_laws.proofs.Between.{Setting, Reached, now, beginning, ending, clocks, refused, ran, by_call, counters_back, counters_twice, enough_places, lent_words, width_right, sound_start, sound_end, counted_call, after_reached, reached_invariant}
use Rattle.run_laws.proofs.CallSums.{list_reached, list_clocks}
use Rattle.demands.proofs.Finishing.{setting, start}
use Rattle.run_laws.proofs.Stores.{puts, Heads, stored_puts, puts_leaves}

module _ (L : Layout) (stream : ℕ → ℕ) where
  open L use {capacity, filters, cells}

  -- Every filter is presented the stream's cell at its counter.
  abbrev cell_at : (k p : ℕ) → ℕ
  cell_at k p = stream p

  -- The store after clocks with these events.
  unfoldable store_after : List Bool → Counters → List ℕ → List ℕ
  store_after [] s store = store
  store_after (e ∷ es) s store = store_after es (next L s) (puts capacity cell_at 0 s.passed (next L s).passed store)

  after_join : {s s' : Counters} {es : List Bool} → Traced L s es s' → (fs : List Bool) (store : List ℕ)
      → store_after (es ++ fs) s store ≡ store_after fs s' (store_after es s store)
  unfolding store_after
  after_join trace.ended fs store = refl
  after_join {s} (trace.clocked v r) fs store = after_join r fs (puts capacity cell_at 0 s.passed (next L s).passed store)

  held_heads : (k : ℕ) (store ps : List ℕ) → Held capacity stream k store ps → Heads capacity cell_at k store ps
  held_heads k store [] h = tt
  held_heads k store (p ∷ []) h = tt
  held_heads k store (p ∷ q ∷ qs) h = (λ g. h.0 q (omega arith) g, held_heads (suc k) store (q ∷ qs) h.1)

  module _ (lawful : Lawful L) where
    -- Clocks on a store's front leave its rest.
    after_front : {s s' : Counters} {es : List Bool} → Traced L s es s' → Invariant L s → (store rest : List ℕ) → first_place capacity (filters - 1) ≤ length store
        → store_after es s (store ++ rest) ≡ store_after es s store ++ rest
    unfolding store_after
    after_front trace.ended i store rest room = refl
    after_front {s} (trace.clocked {es = es} v r) i store rest room =
        let j = next_invariant L lawful s (live_yes L s v).0 i in
        let c = puts_leaves L cell_at s.passed (next L s).passed store rest s.fired (next L s).fired i.all j.all (next_steps L s i) room in
        ap (store_after es (next L s)) c.0 ∙ after_front r j (puts capacity cell_at 0 s.passed (next L s).passed store) rest (rw c.1 room)

    module _ (write : List ℕ → List ℕ) (size : ℕ) (lent : List ℕ) (from : ℕ) (lent_words : (i : ℕ) → i < length lent → get_or lent i 0 ≡ stream (from + i))
        (width : (ws : List ℕ) → length ws ≡ L.filters → length (write ws) ≡ size) where
      abbrev SoundAt : Standing → Type 0
      SoundAt s = Sound L lawful write size lent stream from lent_words width s

      call_store : (left : ℕ) (s : Standing) → SoundAt s → (call L write size lent left s).standing.store ≡ store_after (events L write size lent left s) s.counters s.store
      unfolding store_after clocked
      call_store = along_call L write size lent (λ _ s r es. SoundAt s → r.standing.store ≡ store_after es s.counters s.store) (λ _ _ _ _ _. refl)
          (λ left s r es h ih snd.
          ih (clocked_sound L lawful write size lent stream from lent_words width s h snd) ∙ ap (store_after es (next L s.counters)) (clock s h snd))
        where
          clock : {left : ℕ} (s : Standing) → Looked L write size lent (suc left) s goes → SoundAt s
              → stored capacity 0 (get_or lent s.done.cells 0) s.store s.counters.passed (next L s.counters).passed s.store
              ≡ puts capacity cell_at 0 s.counters.passed (next L s.counters).passed s.store
          clock s (is_going _ _ l _ _) snd =
              stored_puts L cell_at _ s.counters.passed (next L s.counters).passed s.store (next_steps L s.counters snd.invariant)
              (held_heads 0 s.store s.counters.passed snd.held) (λ p qs e. lent_words s.done.cells l ∙ ap stream (sym snd.taken ∙ ap first e))

counters_length : (n : ℕ) (s : State) → length (counters_of n s).passed ≡ n
unfolding counters_of
counters_length n s = length_tabulate n (λ k. (get_or s.passed k (record { 0 = 0 })).0)

-- A state with its own counters, and how many one has that is given counters.
own_counters : (n : ℕ) (s : State) → n ≤ length s.passed → with_counters s (counters_of n s) ≡ s
unfolding with_counters counters_of tabulate
own_counters n s h = rw (length_tabulate n (λ k. (get_or s.passed k (record { 0 = 0 })).0)) (ap (λ (ps : List CellsPassed). let r : State = record { passed = ps; fired = s.fired } in r) (go n s.passed h))
  where
    go : (n : ℕ) (ps : List CellsPassed) → n ≤ length ps
        → map (λ (p : ℕ). let passed : CellsPassed = record { 0 = p } in passed) (tabulate n (λ k. (get_or ps k (record { 0 = 0 })).0)) ++ drop n ps ≡ ps
    go zero ps h = refl
    go (suc n) [] h = absurd (omega arith)
    go (suc n) (p ∷ ps) h = ap (λ (qs : List CellsPassed). p ∷ qs) (go n ps (omega arith))

counters_fit : (s : State) (c : Counters) → length c.passed ≤ length (with_counters s c).passed
unfolding with_counters
counters_fit s c =
    let mark : ℕ → CellsPassed = λ p. record { 0 = p } in
    omega (arith, length-append (map mark c.passed) (drop (length c.passed) s.passed), length-map c.passed mark)

module _ (S : Setting) where
  open S use {trimmed as t, proper, accepted as ok, stream}

  module _ (l : Lending) (b : Between) {es : List Bool} (r : Reached S b es) where
    pub traced_call : Traced (layout t) (now S b) (call_events t stream l b) (now S (after t stream l b))
    unfolding after refused ran beginning begun layout
    traced_call = by_call S l b r (λ x fs. Traced (layout t) (now S b) fs (counters_of t.count x.state)) (λ _. trace.ended)
        (λ e. rw (counters_back t.count b.state (ending S l b).standing.counters
        (omega (arith, holds_length (layout t) (ending S l b).standing.counters.fired 0 (layout t).cells (ending S l b).standing.counters.passed (sound_end S l b r e).invariant.all)))
        (counted_call S l b).traced)

    store_after_lem : (after t stream l b).store ≡ store_after (layout t) stream (call_events t stream l b) (now S b) b.store
    unfolding after refused ran store_after beginning begun layout ending clocks
    store_after_lem = by_call S l b r (λ x fs. x.store ++ drop l.front b.store ≡ store_after (layout t) stream fs (now S b) b.store)
        (λ _. take-append-drop l.front b.store)
        (λ e.
        ap (λ (x : List ℕ). x ++ drop l.front b.store) (own e)
        ∙ sym (after_front (layout t) stream (lawful t proper ok) (counted_call S l b).traced (reached_invariant S r) (take l.front b.store) (drop l.front b.store)
        (omega (arith, enough_places S l b e, all_places t proper ok)))
        ∙ ap (store_after (layout t) stream (clocks S l b) (now S b)) (take-append-drop l.front b.store))
      where
        own : short_store t (take l.front b.store) ≡ false
            → (ending S l b).standing.store ≡ store_after (layout t) stream (clocks S l b) (now S b) (take l.front b.store)
        own e = call_store (layout t) stream (lawful t proper ok) (written_by t) (width_of t) (lent_cells t stream l b) _ (lent_words S l b) (width_right S) l.allowance (beginning S l b)
            (sound_start S l b r e)

    state_after : t.count ≤ length b.state.passed → (after t stream l b).state ≡ with_counters b.state (now S (after t stream l b))
    unfolding after refused ran layout
    state_after h = by_call S l b r (λ x _. x.state ≡ with_counters b.state (counters_of t.count x.state)) (λ _. sym (own_counters t.count b.state h))
        (λ e. ap (with_counters b.state) (sym (counters_back t.count b.state (ending S l b).standing.counters
        (omega (arith, holds_length (layout t) (ending S l b).standing.counters.fired 0 (layout t).cells (ending S l b).standing.counters.passed (sound_end S l b r e).invariant.all)))))

  list_store : (ls : List Lending) (b : Between) (es : List Bool) → Reached S b es
      → (after_all t stream ls b).store ≡ store_after (layout t) stream (all_events t stream ls b) (now S b) b.store
  unfolding after_all all_events store_after
  list_store [] b es r = refl
  list_store (l ∷ ls) b es r =
      list_store ls (after t stream l b) _ (after_reached S l b r)
      ∙ ap (store_after (layout t) stream (all_events t stream ls (after t stream l b)) (now S (after t stream l b))) (store_after_lem l b r)
      ∙ sym (after_join (layout t) stream (traced_call l b r) (all_events t stream ls (after t stream l b)) b.store)

  list_state : (ls : List Lending) (b : Between) (es : List Bool) → Reached S b es → t.count ≤ length b.state.passed
      → (after_all t stream ls b).state ≡ with_counters b.state (now S (after_all t stream ls b))
  unfolding after_all
  list_state [] b es r h = sym (own_counters t.count b.state h)
  list_state (l ∷ ls) b es r h =
      let x = after t stream l b in
      let e = state_after l b r h in
      list_state ls x _ (after_reached S l b r) (rw e (omega (arith, counters_fit b.state (now S x), counters_length t.count x.state)))
      ∙ ap (λ (y : State). with_counters y (now S (after_all t stream ls x))) e
      ∙ counters_twice b.state (now S x) (now S (after_all t stream ls x)) (counters_length t.count x.state ∙ sym (counters_length t.count (after_all t stream ls x).state))

  -- The state that is handed on has no fewer counters.
  pub long_after : (ls : List Lending) (b : Between) (es : List Bool) → Reached S b es → t.count ≤ length b.state.passed
      → t.count ≤ length (after_all t stream ls b).state.passed
  long_after ls b es r h =
      rw (list_state ls b es r h) (omega (arith, counters_fit b.state (now S (after_all t stream ls b)), counters_length t.count (after_all t stream ls b).state))

  -- Two lists from one standing that made the same clocks and come to the same counters hand on the same.
  pub same_after : (ls ms : List Lending) (b : Between) (es : List Bool) → Reached S b es → t.count ≤ length b.state.passed → all_events t stream ls b ≡ all_events t stream ms b
      → now S (after_all t stream ls b) ≡ now S (after_all t stream ms b) → after_all t stream ls b ≡ after_all t stream ms b
  same_after ls ms b es r h events counters =
      ap₂ (λ (s : State) (w : List ℕ). let z : Between = record { state = s; store = w } in z)
      (list_state ls b es r h ∙ ap (with_counters b.state) counters ∙ sym (list_state ms b es r h))
      (list_store ls b es r ∙ ap (λ (es : List Bool). store_after (layout t) stream es (now S b) b.store) events ∙ sym (list_store ms b es r))

  -- Two lists from one start that made equally many clocks.
  same_end : (ls ms : List Lending) (b : Between) → Reached S b [] → t.count ≤ length b.state.passed
      → clocks_made (runs t stream ls b) ≡ clocks_made (runs t stream ms b) → after_all t stream ls b ≡ after_all t stream ms b
  same_end ls ms b r h e =
      let x = list_reached S ls b [] r in
      let y = list_reached S ms b [] r in
      let same = traced_same (layout t) x.traced y.traced (list_clocks S ls b [] r ∙ e ∙ sym (list_clocks S ms b [] r)) in
      same_after ls ms b [] r h same.0 same.1

pub same_handed : (p q : ListOfCalls) → SameRun p q → SameStart p q → clocks_made (runs_of p) ≡ clocks_made (runs_of q) → handed_on p ≡ handed_on q
same_handed p q same begin e =
    same_end (setting p) p.calls q.calls p.start (start p) begin.long (e ∙ ap clocks_made (sym (moved runs)))
    ∙ moved after_all
  where
    -- The second list's calls, on the first one's chain, stream and start.
    moved : {A : Type 0} (f : Trimmed → (ℕ → ℕ) → List Lending → Between → A) → f (chain_in p) p.stream q.calls p.start ≡ f (chain_in q) q.stream q.calls q.start
    moved f =
        ap₂ (λ (t : Trimmed) (s : ℕ → ℕ). f t s q.calls p.start) same.chain same.stream
        ∙ ap (f (chain_in q) q.stream q.calls) begin.start
