-- A list of calls on one accepted chain and one stream: what holds between two calls, and what one call adds.
use Prim.Native.Nat.{ℕ, ◌+◌, ◌-◌, ◌≤◌, ◌<◌}
use mathlib.Core.Bool.{Bool, true, false, cond, false≢true}
use mathlib.Core.List.{List, [], ◌∷◌, ◌++◌, map, append-nil}
use mathlib.Core.Path.{◌≡◌, refl, sym, ◌∙◌, ap}
use native.Mathlib.Nat.{add-zero}
use native.Mathlib.Omega.{arith}
use lib.ListN.{length, get_or, take, drop, take-append-drop, length-take, length-map, get_or-append}
use lib.Seq.{get_or-take, drop_at}
use borrow.Author.Tests.{ltb-false}
use Rattle.model.specs.Lists.{sum, tabulate, up_to}
use Rattle.model.specs.Values.{Trimmed}
use Rattle.model.specs.Answers.{first_of}
use Rattle.model_run.specs.Kernels.{words_at, written, width}
use Rattle.model.specs.Judging.{value_checks}
use Rattle.model_run.specs.Clock.{Counters, first, fresh}
use Rattle.model_run.specs.Running.{layout, counters_of, with_counters, Standing, Ended, outcome_of, call, events, short_store, judge_run, Run, begun, terms_of, writes_of, written_by, width_of, ended, run_trimmed, events_trimmed}
use Rattle.model_run.specs.CallLists.{Lending, Between, lent_cells, call_run, call_events, after, firings_among, Fresh}
use Rattle.model.specs.declared.CellsPassed.{CellsPassed}
use Rattle.model.specs.declared.Kernel.{Kernel}
use Rattle.model.specs.declared.Kernel.TheVariants as kernel
use Rattle.model.specs.declared.State.{State}
use Rattle.model.specs.declared.Refusal.TheVariants as refusal
use Rattle.std.specs.Prelude.{Ok, Err}
use Rattle.grid_laws.proofs.ListLaws.{length_tabulate, get_d_tabulate}
use Rattle.flow.specs.Machine.{Invariant}
use Rattle.flow.proofs.Laws.{ran_invariant}
use Rattle.model.specs.Sized.{Proper}
use Rattle.run_laws.specs.Accepted.{Accepted}
use Rattle.run_laws.proofs.Accepts.{first_append}
use Rattle.run_laws.proofs.Layouts.{lawful, all_places}
use Rattle.run_laws.proofs.Guard.{invariant_good}
use Rattle.run_laws.proofs.Traces.{Traced, traced_ran, traced_fired, traced_join}
use Rattle.run_laws.proofs.Traces as trace
use Rattle.run_laws.proofs.Held.{Held, held_agree, held_fresh, holds_fitted, holds_length}
use Rattle.run_laws.proofs.Calls.{Counted, counted, Sound, call_sound}

-- A firing writes as many words as its kernel's width.
pub written_width : (k : Kernel) (c : ℕ) (ks us ws : List ℕ) → length (written k c ks us ws) ≡ width k (length us)
unfolding written width words_at
written_width kernel.Raw c ks us ws = length-map us (λ i. get_or ws i 0)
written_width kernel.Difference c ks us ws = refl
written_width (kernel.Scaled f) c ks us ws = refl
written_width (kernel.Blend g) c ks us ws = refl

-- The counters of a state are those that it was given.
pub counters_back : (n : ℕ) (s : State) (c : Counters) → length c.passed ≡ n → counters_of n (with_counters s c) ≡ c
unfolding counters_of with_counters tabulate
counters_back n s c e = rw (← e) (ap (λ (ps : List ℕ). let r : Counters = record { fired = c.fired; passed = ps } in r) (go c.passed (drop (length c.passed) s.passed)))
  where
    go : (ps : List ℕ) (rest : List CellsPassed)
        → tabulate (length ps) (λ k. (get_or (map (λ (p : ℕ). let passed : CellsPassed = record { 0 = p } in passed) ps ++ rest) k (record { 0 = 0 })).0) ≡ ps
    go [] rest = refl
    go (p ∷ ps) rest = ap (λ (l : List ℕ). p ∷ l) (go ps rest)

-- A state that is given counters twice.
pub counters_twice : (s : State) (c d : Counters) → length c.passed ≡ length d.passed → with_counters (with_counters s c) d ≡ with_counters s d
unfolding with_counters
counters_twice s c d e =
    let mark : ℕ → CellsPassed = λ p. record { 0 = p } in
    ap (λ (ps : List CellsPassed). let r : State = record { passed = map mark d.passed ++ ps; fired = record { 0 = d.fired } } in r)
    (drop_at (map mark c.passed) (drop (length c.passed) s.passed) (length d.passed) (length-map c.passed mark ∙ e) ∙ ap (λ (n : ℕ). drop n s.passed) e)

-- A list's chain, trimmed, and its stream.
pub record Setting : Type 0 where
  pub trimmed : Trimmed
  pub proper : Proper trimmed
  pub accepted : Accepted trimmed
  pub stream : ℕ → ℕ

module _ (S : Setting) where
  open S use {trimmed as t, proper, accepted as ok, stream}

  -- The counters between two calls.
  abbrev pub now : Between → Counters
  now b = counters_of t.count b.state

  -- What holds between two calls of a list from a fresh state, after clocks with these events.
  pub record Reached (b : Between) (es : List Bool) : Type 0 where
    pub traced : Traced (layout t) (fresh (layout t)) es (now b)
    pub held : Held (layout t).capacity stream 0 b.store (now b).passed

  pub fresh_reached : (b : Between) → Fresh t b → Reached b []
  unfolding fresh
  fresh_reached b f = record { traced = rw f.counters trace.ended; held = rw f.counters (held_fresh (layout t).capacity stream (layout t).filters 0 b.store) }

  pub reached_invariant : {b : Between} {es : List Bool} → Reached b es → Invariant (layout t) (now b)
  reached_invariant r = ran_invariant (layout t) (lawful t proper ok) (traced_ran (layout t) r.traced)

  -- Firings made are counted by the events from the fresh state on.
  pub reached_fired : {b : Between} {es : List Bool} → Reached b es → (now b).fired ≡ firings_among es
  unfolding fresh
  reached_fired r = omega (arith, traced_fired (layout t) r.traced)

  -- Of all numbers only 10 can turn a call back.
  pub only_10 : {b : Between} {es : List Bool} → Reached b es → (store : List ℕ)
      → judge_run t b.state store ≡ cond (short_store t store) (Err refusal.ShortStore) (Ok tt)
  unfolding judge_run first_of
  only_10 {b} r store =
      first_append (value_checks t) _ ok.checks
      ∙ ap (λ (x : Bool). cond (short_store t store) (Err refusal.ShortStore) (cond x (Err refusal.BadState) (Ok tt)))
      (invariant_good (layout t) (now b) (reached_invariant r))

  -- A call's own end and events, where 10 does not turn it back.
  module _ (l : Lending) (b : Between) where
    unfoldable pub beginning : Standing
    beginning = begun t b.state (take l.front b.store) l.output

    unfoldable pub ending : Ended
    ending = call (layout t) (written_by t) (width_of t) (lent_cells t stream l b) l.allowance beginning

    unfoldable pub clocks : List Bool
    clocks = events (layout t) (written_by t) (width_of t) (lent_cells t stream l b) l.allowance beginning

    unfoldable pub refused : Run
    refused = record { answer = Err refusal.ShortStore; state = b.state; store = take l.front b.store; output = l.output }

    unfoldable pub ran : Run
    ran = record {
      answer = Ok (outcome_of ending.ending ending.standing.done);
      state = with_counters b.state ending.standing.counters;
      store = ending.standing.store;
      output = ending.standing.output;
    }

    -- A call by its two ways.
    pub by_call : {es : List Bool} → Reached b es → (P : Run → List Bool → Type 0) → (short_store t (take l.front b.store) ≡ true → P refused [])
        → (short_store t (take l.front b.store) ≡ false → P ran clocks) → P (call_run t stream l b) (call_events t stream l b)
    unfolding call_run call_events run_trimmed events_trimmed ended refused ran ending clocks beginning
    by_call r P short enough = go (short_store t (take l.front b.store)) refl (only_10 r (take l.front b.store))
      where
        go : (x : Bool) → short_store t (take l.front b.store) ≡ x
            → judge_run t b.state (take l.front b.store) ≡ cond (short_store t (take l.front b.store)) (Err refusal.ShortStore) (Ok tt)
            → P (call_run t stream l b) (call_events t stream l b)
        go true x e = rw (e, x) (short x)
        go false x e = rw (e, x) (enough x)

    pub enough_places : short_store t (take l.front b.store) ≡ false → sum t.capacities ≤ length (take l.front b.store)
    unfolding short_store
    enough_places e = ltb-false _ _ e

    -- The lent cells are the stream's, from filter 0's counter on.
    pub lent_words : (i : ℕ) → i < length (lent_cells t stream l b) → get_or (lent_cells t stream l b) i 0 ≡ stream (first (now b).passed + i)
    unfolding lent_cells
    lent_words i h = get_d_tabulate l.cells _ i 0 (rw length_tabulate at h)

    pub lent_length : length (lent_cells t stream l b) ≡ l.cells
    unfolding lent_cells
    lent_length = length_tabulate l.cells _

  pub width_right : (ws : List ℕ) → length ws ≡ (layout t).filters → length (written_by t ws) ≡ width_of t
  unfolding written_by width_of writes_of up_to
  width_right ws e = written_width t.kernel _ (terms_of t) _ ws ∙ ap (width t.kernel) (length_tabulate t.count (λ k. k))

  module _ (l : Lending) (b : Between) where
    -- What holds before every clock of this call.
    abbrev pub SoundIn : Standing → Type 0
    SoundIn s = Sound (layout t) (lawful t proper ok) (written_by t) (width_of t) (lent_cells t stream l b) stream (first (now b).passed)
        (lent_words l b) width_right s

    pub sound_start : {es : List Bool} → Reached b es → short_store t (take l.front b.store) ≡ false → SoundIn (beginning l b)
    unfolding beginning begun layout
    sound_start r e =
        let inv = reached_invariant r in
        let long = enough_places l b e in
        let places = all_places t proper ok in
        record {
          invariant = inv;
          taken = sym (add-zero _);
          held = held_agree (layout t).capacity stream (t.count - 1) 0 (now b).passed b.store (take l.front b.store)
              (omega (arith, holds_length (layout t) (now b).fired 0 (layout t).cells (now b).passed inv.all, ok.some))
              (λ i h. sym (get_or-take l.front b.store i 0 (omega (arith, length-take l.front b.store))))
              (holds_fitted (layout t) (now b).fired 0 (layout t).cells (now b).passed inv.all) r.held;
          room = omega (arith, places);
        }

    pub sound_end : {es : List Bool} → Reached b es → short_store t (take l.front b.store) ≡ false → SoundIn (ending l b).standing
    unfolding ending
    sound_end r e = call_sound (layout t) (lawful t proper ok) (written_by t) (width_of t) (lent_cells t stream l b) stream _ (lent_words l b) width_right l.allowance (beginning l b) (sound_start r e)

    pub counted_call : Counted (layout t) (written_by t) (width_of t) (lent_cells t stream l b) (beginning l b) (ending l b) (clocks l b)
    unfolding ending clocks
    counted_call = counted (layout t) (written_by t) (width_of t) (lent_cells t stream l b) l.allowance (beginning l b)

    -- A call hands on what it found, with its own clocks added.
    pub after_reached : {es : List Bool} → Reached b es → Reached (after t stream l b) (es ++ call_events t stream l b)
    unfolding after refused ran beginning begun layout
    after_reached {es} r = by_call l b r (λ run fs. Reached (record { state = run.state; store = run.store ++ drop l.front b.store }) (es ++ fs)) short enough
      where
        short : short_store t (take l.front b.store) ≡ true
            → Reached (record { state = (refused l b).state; store = (refused l b).store ++ drop l.front b.store }) (es ++ [])
        short _ = rw (take-append-drop l.front b.store, append-nil es) r

        enough : short_store t (take l.front b.store) ≡ false
            → Reached (record { state = (ran l b).state; store = (ran l b).store ++ drop l.front b.store }) (es ++ clocks l b)
        enough e =
            let c = (ending l b).standing.counters in
            let snd = sound_end r e in
            let size = holds_length (layout t) c.fired 0 (layout t).cells c.passed snd.invariant.all in
            let back = counters_back t.count b.state c (omega arith) in
            record {
              traced = rw back (traced_join (layout t) r.traced counted_call.traced);
              held = rw back
                  (held_agree (layout t).capacity stream (t.count - 1) 0 c.passed (ending l b).standing.store ((ending l b).standing.store ++ drop l.front b.store)
                  (omega (arith, ok.some)) (λ i h. sym (get_or-append (ending l b).standing.store (drop l.front b.store) 0 i (omega (arith, snd.room))))
                  (holds_fitted (layout t) c.fired 0 (layout t).cells c.passed snd.invariant.all) snd.held);
            }

    -- The counters that the call hands on are those at its end.
    pub now_after : {es : List Bool} → Reached b es → short_store t (take l.front b.store) ≡ false → now (after t stream l b) ≡ (ending l b).standing.counters
    unfolding after ran layout
    now_after r e = by_call l b r (λ run _. counters_of t.count run.state ≡ (ending l b).standing.counters) (λ d. absurd (false≢true (sym e ∙ d)))
        (λ _. counters_back t.count b.state (ending l b).standing.counters
        (omega (arith, holds_length (layout t) (ending l b).standing.counters.fired 0 (layout t).cells (ending l b).standing.counters.passed (sound_end r e).invariant.all)))
