-- A call goes on by the clock that is made: one law for each way that a turn of a loop over its clocks goes.
use Prim.Native.Nat.{ℕ, zero, suc, ◌+◌, ◌*◌, ◌-◌, ◌≤◌, ◌<◌}
use mathlib.Core.Bool.{Bool, true, false, cond}
use mathlib.Core.List.{List, [], ◌∷◌, ◌++◌, map}
use mathlib.Core.Path.{◌≡◌, refl, sym, ◌∙◌, ap}
use native.Mathlib.Nat.{add-mul, suc-mul}
use native.Mathlib.Omega.{arith}
use lib.Dec.{ltb, leb, eqb}
use lib.ListN.{length, get_or, take, drop, set, length-drop, length-append, take-append-drop}
use lib.Seq.{sets, length-sets, get_or-drop, take_at, drop_at, take-set-le, drop-set-add}
use borrow.Author.Tests.{lt-ltb, le-ltb, le-leb, lt-leb, ne_eqb, ltb-true, ltb-false, leb-true, leb-false}
use Rattle.model_run.specs.Clock.{Layout, first, fires, next, moves}
use Rattle.model_run.specs.Store.{presented, stored}
use Rattle.model_run.specs.Running.{Standing, Done, Spent, Starved, Stalled, Full, Look, goes, ends, Ended, by_look, words, clocked, look, call}
use Rattle.run_laws.proofs.Looks.{Looked, is_going, along_call}
use Rattle.loop_laws.specs.Passes.{Aligned, Places, flow, flowed, gets, puts}
use Rattle.loop_laws.specs.Standings.{counting, stand, ended_at}
use Rattle.loop_laws.proofs.AlignedLaws.{fires_yes, fires_no, next_fires, next_waits, moves_fires, moves_waits}
use Rattle.loop_laws.proofs.FlowLaws.{stored_flow, presented_flowed}

module _ (L : Layout) (write : List ℕ → List ℕ) (size : ℕ) (lent : List ℕ) where
  open L use {wants, capacity, filters, cells, iterations}

  pub call_done : (t : ℕ) (s : Standing) → iterations ≤ s.counters.fired → call L write size lent t s ≡ ended_at Done s
  unfolding call look
  call_done zero s h = rw (le-leb iterations s.counters.fired h)
  call_done (suc t) s h = rw (le-leb iterations s.counters.fired h)

  pub call_spent : (t : ℕ) (s : Standing) → t ≡ 0 → s.counters.fired < iterations → call L write size lent t s ≡ ended_at Spent s
  unfolding call look
  call_spent t s e h = rw (e, lt-leb iterations s.counters.fired h)

  module _ (t : ℕ) (s : Standing) (more : s.counters.fired < iterations) where
    some : eqb (suc t) 0 ≡ false
    some = ne_eqb (suc t) 0 (λ e. omega arith)

    pub call_starved : length lent ≤ s.done.cells → call L write size lent (suc t) s ≡ ended_at Starved s
    unfolding call look
    call_starved l = rw (lt-leb iterations s.counters.fired more, some, le-leb (length lent) s.done.cells l)

    module _ (lends : s.done.cells < length lent) where
      pub call_stalled : moves L s.counters ≡ false → call L write size lent (suc t) s ≡ ended_at Stalled s
      unfolding call look
      call_stalled m = rw (lt-leb iterations s.counters.fired more, some, lt-leb (length lent) s.done.cells lends, m)

      module _ (moving : moves L s.counters ≡ true) where
        pub call_idle : fires L s.counters ≡ false → call L write size lent (suc t) s ≡ call L write size lent t (clocked L write size lent s)
        unfolding call look
        call_idle f = rw (lt-leb iterations s.counters.fired more, some, lt-leb (length lent) s.done.cells lends, moving, f)

        pub call_full : fires L s.counters ≡ true → length s.output < s.done.firings * size + size → call L write size lent (suc t) s ≡ ended_at Full s
        unfolding call look
        call_full f r =
            rw (
              lt-leb iterations s.counters.fired more,
              some,
              lt-leb (length lent) s.done.cells lends,
              moving,
              f,
              lt-ltb (length s.output) (s.done.firings * size + size) r,
            )

        pub call_fires : fires L s.counters ≡ true → s.done.firings * size + size ≤ length s.output
            → call L write size lent (suc t) s ≡ call L write size lent t (clocked L write size lent s)
        unfolding call look
        call_fires f r =
            rw (
              lt-leb iterations s.counters.fired more,
              some,
              lt-leb (length lent) s.done.cells lends,
              moving,
              f,
              le-ltb (length s.output) (s.done.firings * size + size) r,
            )

  -- A clock without firing, whatever the filters do.
  module _ (f : ℕ) (ps store out : List ℕ) (taken clocks made : ℕ) (more : f < iterations) (lends : taken < length lent) (idle : fires L (counting f ps) ≡ false) where
    shifted : clocked L write size lent (stand f ps store out taken clocks made)
        ≡ stand f (next L (counting f ps)).passed (stored capacity 0 (get_or lent taken 0) store ps (next L (counting f ps)).passed store) out
        (taken + (first (next L (counting f ps)).passed - first ps)) (suc clocks) made
    unfolding clocked next
    shifted = rw idle

    pub call_shifts : (t : ℕ) → moves L (counting f ps) ≡ true
        → call L write size lent (suc t) (stand f ps store out taken clocks made)
        ≡ call L write size lent t
        (stand f (next L (counting f ps)).passed (stored capacity 0 (get_or lent taken 0) store ps (next L (counting f ps)).passed store) out
        (taken + (first (next L (counting f ps)).passed - first ps)) (suc clocks) made)
    call_shifts t m = call_idle t (stand f ps store out taken clocks made) more lends m idle ∙ ap (call L write size lent t) shifted

  -- A clock of aligned filters.
  module _ (base cap : ℕ → ℕ) (places : Places capacity filters base cap) (f p : ℕ) (ps store out : List ℕ) (taken clocks made : ℕ) (here : p < cells)
      (aligned : Aligned (wants f) capacity 0 (p ∷ ps)) (known : Aligned (wants f) cap 0 (p ∷ ps)) (more : f < iterations) (lends : taken < length lent)
      (few : length (p ∷ ps) ≤ filters) where
    x : ℕ
    x = get_or lent taken 0

    s : Standing
    s = stand f (p ∷ ps) store out taken clocks made

    store_on : stored capacity 0 x store (p ∷ ps) (map suc (p ∷ ps)) store ≡ flow x (gets base cap 0 (p ∷ ps)) (puts base cap 0 (p ∷ ps)) store
    store_on = stored_flow capacity filters base cap places (wants f) 0 x store (p ∷ ps) store (omega arith) known (λ i _. refl)

    words_on : presented capacity 0 x store (p ∷ ps) ≡ flowed x (gets base cap 0 (p ∷ ps)) (puts base cap 0 (p ∷ ps)) store
    words_on = presented_flowed capacity filters base cap places (wants f) 0 x store p ps store (omega arith) known (λ i _. refl)

    one : taken + (suc p - p) ≡ suc taken
    one = omega arith

    waited : (p ≡ wants f 0 → ⊥) → clocked L write size lent s
        ≡ stand f (map suc (p ∷ ps)) (flow x (gets base cap 0 (p ∷ ps)) (puts base cap 0 (p ∷ ps)) store) out (suc taken) (suc clocks) made
    unfolding clocked s x
    waited n = rw (fires_no L f p ps here aligned n, next_waits L f p ps here aligned n, store_on, one)

    fired : p ≡ wants f 0 → clocked L write size lent s
        ≡ stand (suc f) (map suc (p ∷ ps)) (flow x (gets base cap 0 (p ∷ ps)) (puts base cap 0 (p ∷ ps)) store)
        (sets out (made * size) (write (flowed x (gets base cap 0 (p ∷ ps)) (puts base cap 0 (p ∷ ps)) store))) (suc taken) (suc clocks) (suc made)
    unfolding clocked words s x
    fired e = rw (fires_yes L f p ps here aligned e, next_fires L f p ps here aligned e, store_on, words_on, one)

    -- No filter is at its wanted cell.
    pub aligned_waits : (t : ℕ) → (p ≡ wants f 0 → ⊥)
        → call L write size lent (suc t) (stand f (p ∷ ps) store out taken clocks made)
        ≡ call L write size lent t (stand f (map suc (p ∷ ps)) (flow (get_or lent taken 0) (gets base cap 0 (p ∷ ps)) (puts base cap 0 (p ∷ ps)) store) out
        (suc taken) (suc clocks) made)
    unfolding s x
    aligned_waits t n = call_idle t s more lends (moves_waits L f p ps here aligned n) (fires_no L f p ps here aligned n) ∙ ap (call L write size lent t) (waited n)

    -- All are, and the words have no room.
    pub aligned_full : (t : ℕ) → p ≡ wants f 0 → length out < made * size + size
        → call L write size lent (suc t) (stand f (p ∷ ps) store out taken clocks made) ≡ ended_at Full (stand f (p ∷ ps) store out taken clocks made)
    unfolding s
    aligned_full t e r = call_full t s more lends (moves_fires L f p ps here aligned e) (fires_yes L f p ps here aligned e) r

    -- All are: a firing.
    pub aligned_fires : (t : ℕ) → p ≡ wants f 0 → made * size + size ≤ length out
        → call L write size lent (suc t) (stand f (p ∷ ps) store out taken clocks made)
        ≡ call L write size lent t (stand (suc f) (map suc (p ∷ ps)) (flow (get_or lent taken 0) (gets base cap 0 (p ∷ ps)) (puts base cap 0 (p ∷ ps)) store)
        (sets out (made * size) (write (flowed (get_or lent taken 0) (gets base cap 0 (p ∷ ps)) (puts base cap 0 (p ∷ ps)) store))) (suc taken) (suc clocks) (suc made))
    unfolding s x
    aligned_fires t e r = call_fires t s more lends (moves_fires L f p ps here aligned e) (fires_yes L f p ps here aligned e) r ∙ ap (call L write size lent t) (fired e)

-- Every firing had room for its words.
module _ (L : Layout) (write : List ℕ → List ℕ) (size : ℕ) (lent : List ℕ) where
  pub record Roomy (s : Standing) (e : Ended) : Type 0 where
    pub same_length : length e.standing.output ≡ length s.output
    pub room : s.done.firings * size ≤ length s.output → e.standing.done.firings * size ≤ length s.output

  clocked_roomy : (t : ℕ) (s : Standing) (e : Ended) → Looked L write size lent (suc t) s goes → Roomy (clocked L write size lent s) e → Roomy s e
  unfolding clocked
  clocked_roomy t s e (is_going _ _ _ _ r) h = go (fires L s.counters) refl (write (words L write size lent s)) h.same_length h.room
    where
      go : (b : Bool) → fires L s.counters ≡ b → (ws : List ℕ)
          → length e.standing.output ≡ length (cond b (sets s.output (s.done.firings * size) ws) s.output)
          → (cond b (suc s.done.firings) s.done.firings * size ≤ length (cond b (sets s.output (s.done.firings * size) ws) s.output)
          → e.standing.done.firings * size ≤ length (cond b (sets s.output (s.done.firings * size) ws) s.output))
          → Roomy s e
      go false f ws l g = record { same_length = l; room = g }
      go true f ws l g =
          let k = length-sets s.output (s.done.firings * size) ws in
          record { same_length = l ∙ k; room = λ _. omega (arith, k, g (omega (arith, k, suc-mul s.done.firings size, r f))) }

  pub call_room : (left : ℕ) (s : Standing) → Roomy s (call L write size lent left s)
  call_room = along_call L write size lent (λ _ s e _. Roomy s e) (λ _ s e _. record { same_length = refl; room = λ h. h }) (λ t s e _ h ih. clocked_roomy t s e h ih)

-- A part from o on that was written, back in its whole.
pub sets_part : (l : List ℕ) (o i : ℕ) (vs : List ℕ) → take o l ++ sets (drop o l) i vs ≡ sets l (o + i) vs
sets_part l o i [] = take-append-drop o l
sets_part l o i (a ∷ vs) =
    let e : o + suc i ≡ suc (o + i) = omega arith in
    rw (← take-set-le o l (o + i) a (omega arith), ← drop-set-add o l i a) (sets_part (set l (o + i) a) o (suc i) vs ∙ rw e)

sets_behind : (front out : List ℕ) (i : ℕ) (vs : List ℕ) → sets (front ++ out) (length front + i) vs ≡ front ++ sets out i vs
sets_behind front out i vs = sym (rw (take_at front out (length front) refl, drop_at front out (length front) refl) at (sets_part (front ++ out) (length front) i vs))

-- The counts and the output of a call that began a cells, b clocks and m firings further on, and whose output begins with `front`.
abbrev pub later : (a b m : ℕ) (front : List ℕ) → Standing → Standing
later a b m front s = record {
  counters = s.counters;
  store = s.store;
  output = front ++ s.output;
  done = record { cells = a + s.done.cells; firings = m + s.done.firings; clocks = b + s.done.clocks };
}

abbrev pub ended_later : (a b m : ℕ) (front : List ℕ) → Ended → Ended
ended_later a b m front e = record { ending = e.ending; standing = later a b m front e.standing }

module _ (L : Layout) (write : List ℕ → List ℕ) (size : ℕ) (lent front : List ℕ) (a b m : ℕ) (within : a ≤ length lent) (wrote : length front ≡ m * size) where
  open L use {wants, capacity, filters, cells, iterations}

  same_starved : (i : ℕ) → leb (length lent) (a + i) ≡ leb (length (drop a lent)) i
  same_starved i = go (leb (length (drop a lent)) i) refl
    where
      go : (x : Bool) → leb (length (drop a lent)) i ≡ x → leb (length lent) (a + i) ≡ x
      go true e = le-leb (length lent) (a + i) (omega (arith, leb-true (length (drop a lent)) i e, length-drop a lent))
      go false e = lt-leb (length lent) (a + i) (omega (arith, leb-false (length (drop a lent)) i e, length-drop a lent))

  place : (i : ℕ) → (m + i) * size ≡ length front + i * size
  place i = add-mul m i size ∙ ap (λ (x : ℕ). x + i * size) (sym wrote)

  same_full : (out : List ℕ) (i : ℕ) → ltb (length (front ++ out)) ((m + i) * size + size) ≡ ltb (length out) (i * size + size)
  same_full out i = go (ltb (length out) (i * size + size)) refl
    where
      go : (x : Bool) → ltb (length out) (i * size + size) ≡ x → ltb (length (front ++ out)) ((m + i) * size + size) ≡ x
      go true e =
          lt-ltb (length (front ++ out)) ((m + i) * size + size)
          (omega (arith, place i, length-append front out, ltb-true (length out) (i * size + size) e))
      go false e =
          le-ltb (length (front ++ out)) ((m + i) * size + size)
          (omega (arith, place i, length-append front out, ltb-false (length out) (i * size + size) e))

  output_later : (x : Bool) (out ws : List ℕ) (i : ℕ)
      → cond x (sets (front ++ out) ((m + i) * size) ws) (front ++ out) ≡ front ++ cond x (sets out (i * size) ws) out
  output_later true out ws i = ap (λ (o : ℕ). sets (front ++ out) o ws) (place i) ∙ sets_behind front out (i * size) ws
  output_later false out ws i = refl

  firings_later : (x : Bool) (i : ℕ) → cond x (suc (m + i)) (m + i) ≡ m + cond x (suc i) i
  firings_later true i = omega arith
  firings_later false i = refl

  look_later : (t : ℕ) (s : Standing) → look L write size lent t (later a b m front s) ≡ look L write size (drop a lent) t s
  unfolding look
  look_later t s = rw (same_starved s.done.cells, same_full s.output s.done.firings)

  clocked_later : (s : Standing) → clocked L write size lent (later a b m front s) ≡ later a b m front (clocked L write size (drop a lent) s)
  unfolding clocked words
  clocked_later s =
      let w : get_or lent (a + s.done.cells) 0 ≡ get_or (drop a lent) s.done.cells 0 = sym (get_or-drop a lent s.done.cells 0) in
      let d = first (next L s.counters).passed - first s.counters.passed in
      let t : (a + s.done.cells) + d ≡ a + (s.done.cells + d) = omega arith in
      let k : suc (b + s.done.clocks) ≡ b + suc s.done.clocks = omega arith in
      let ws = write (presented capacity 0 (get_or (drop a lent) s.done.cells 0) s.store s.counters.passed) in
      rw (w, t, k, output_later (fires L s.counters) s.output ws s.done.firings, firings_later (fires L s.counters) s.done.firings)

  by_later : (l : Look) (s : Standing) (e e' : Ended) → e ≡ ended_later a b m front e' → by_look l (later a b m front s) e ≡ ended_later a b m front (by_look l s e')
  by_later goes s e e' h = h
  by_later (ends x) s e e' h = refl

  pub call_later : (t : ℕ) (s : Standing) → call L write size lent t (later a b m front s) ≡ ended_later a b m front (call L write size (drop a lent) t s)
  unfolding call
  call_later zero s = rw (look_later zero s) (by_later (look L write size (drop a lent) zero s) s _ _ refl)
  call_later (suc t) s =
      rw (look_later (suc t) s, clocked_later s)
      (by_later (look L write size (drop a lent) (suc t) s) s _ _ (call_later t (clocked L write size (drop a lent) s)))
