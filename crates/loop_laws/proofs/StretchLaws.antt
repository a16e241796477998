-- A stretch of a layout's iterations: what it has of the layout, and the layout's call by the calls of its stretches.
use Prim.Native.Nat.{ℕ, zero, suc, ◌+◌, ◌*◌, ◌-◌, ◌≤◌}
use mathlib.Core.Bool.{Bool, true, false, cond}
use mathlib.Core.List.{List, [], ◌∷◌, ◌++◌, map}
use mathlib.Core.Path.{◌≡◌, refl, sym, ◌∙◌, ap, subst}
use native.Mathlib.Nat.{add-zero}
use native.Mathlib.Omega.{arith}
use lib.ListN.{length, take, drop, take-append-drop}
use lib.Seq.{length-take-le}
use Rattle.model_run.specs.Clock.{Layout, Counters, fires, next, moves}
use Rattle.model_run.specs.Running.{Standing, Ending, Done, Spent, Starved, Stalled, Full, goes, ends, Ended, words, clocked, call}
use Rattle.flow.specs.Machine.{Lawful, past, Holds, Invariant}
use Rattle.flow.proofs.Invariant.{next_invariant}
use Rattle.run_laws.proofs.Looks.{Looked, is_done, is_spent, is_starved, is_stalled, is_full_lem, is_going, along_call}
use Rattle.run_laws.proofs.Ends.{ends_so}
use Rattle.loop_laws.specs.Standings.{counting, stand, ended_at}
use Rattle.loop_laws.specs.Stretches.{stretch, in_whole, resumed}
use Rattle.loop_laws.proofs.CallLaws.{call_done, call_spent, call_starved, call_stalled, call_full, call_idle, call_fires, later, ended_later, call_later}

module _ (L : Layout) (from until : ℕ) where
  abbrev S : Layout
  S = stretch from until L

  one_more_lem : (j : ℕ) → suc (from + j) ≡ from + suc j
  one_more_lem j = omega arith

  -- ---- what a stretch has of its layout

  pub stretch_lawful : Lawful L → from ≤ until → until ≤ L.iterations → Lawful S
  stretch_lawful l h g = record {
    some = l.some;
    rises = λ j k b f. rw (one_more_lem j) at (l.rises (from + j) k (omega arith) f);
    within = λ j k b f. l.within (from + j) k (omega arith) f;
  }

  past_less : (j k : ℕ) → past S j k ≤ past L (from + j) k
  past_less zero k = omega arith
  past_less (suc j) k = rw (← one_more_lem j) (omega arith)

  holds_in : (j k source : ℕ) (ps : List ℕ) → Holds L (from + j) k source ps → Holds S j k source ps
  holds_in j k source [] h = h
  holds_in j k source (p ∷ []) h = (
    record { filter = h.0.filter; fired = omega (arith, past_less j k, h.0.fired); wanted = h.0.wanted; sourced = h.0.sourced; fits = tt },
    h.1,
  )
  holds_in j k source (p ∷ q ∷ qs) h = (
    record { filter = h.0.filter; fired = omega (arith, past_less j k, h.0.fired); wanted = h.0.wanted; sourced = h.0.sourced; fits = h.0.fits },
    holds_in j (suc k) p (q ∷ qs) h.1,
  )

  -- Counters of the layout are the stretch's, firings counted from its first iteration on.
  pub stretch_invariant : (j : ℕ) (ps : List ℕ) → from + j ≤ until → Invariant L (counting (from + j) ps) → Invariant S (counting j ps)
  stretch_invariant j ps h i = record { most = omega arith; all = holds_in j 0 L.cells ps i.all }

  -- ---- clocks

  next_same : (c : Counters) → next L (counting (from + c.fired) c.passed) ≡ counting (from + (next S c).fired) (next S c).passed
  unfolding next fires
  next_same c = go (fires S c) (map suc c.passed) _
    where
      go : (b : Bool) (ps qs : List ℕ)
          → cond b (counting (suc (from + c.fired)) ps) (counting (from + c.fired) qs)
          ≡ counting (from + (cond b (counting (suc c.fired) ps) (counting c.fired qs)).fired) (cond b (counting (suc c.fired) ps) (counting c.fired qs)).passed
      go true ps qs = ap (λ (f : ℕ). counting f ps) (one_more_lem c.fired)
      go false ps qs = refl

  moves_same : (c : Counters) → moves L (counting (from + c.fired) c.passed) ≡ moves S c
  unfolding moves
  moves_same c = rw (next_same c)

  fires_same : (c : Counters) → fires L (counting (from + c.fired) c.passed) ≡ fires S c
  unfolding fires
  fires_same c = refl

  -- ---- calls

  module _ (within : until ≤ L.iterations) (write : List ℕ → List ℕ) (size : ℕ) (lent : List ℕ) where
    clocked_same : (s : Standing) → clocked L write size lent (in_whole from s) ≡ in_whole from (clocked S write size lent s)
    unfolding clocked words
    clocked_same s = rw (next_same s.counters, fires_same s.counters)

    -- A call of the stretch keeps the layout's invariant.
    clocked_keeps : Lawful L → (t : ℕ) (s : Standing) → Looked S write size lent (suc t) s goes → Invariant L (in_whole from s).counters
        → Invariant L (in_whole from (clocked S write size lent s)).counters
    unfolding clocked
    clocked_keeps l t s (is_going more _ _ _ _) i = rw (next_same s.counters) at (next_invariant L l (in_whole from s).counters (omega arith) i)

    pub stretch_keeps : Lawful L → (left : ℕ) (s : Standing) → Invariant L (in_whole from s).counters
        → Invariant L (in_whole from (call S write size lent left s).standing).counters
    stretch_keeps l =
        along_call S write size lent (λ _ s r _. Invariant L (in_whole from s).counters → Invariant L (in_whole from r.standing).counters)
        (λ _ s e _ i. i) (λ t s r _ h ih i. ih (clocked_keeps l t s h i))

    -- The layout's call by the stretch's: while the stretch has firings left, looks and clocks are the same.
    pub record Resumes (left : ℕ) (s : Standing) (e : Ended) : Type 0 where
      pub since : s.done.clocks ≤ e.standing.done.clocks
      pub is : resumed e.ending (call L write size lent (left - (e.standing.done.clocks - s.done.clocks)) (in_whole from e.standing))
          (ended_at e.ending (in_whole from e.standing))
          ≡ call L write size lent left (in_whole from s)

    ends_same : (s : Standing) (e : Ending) (left : ℕ) → Looked S write size lent left s (ends e)
        → resumed e (call L write size lent (left - (s.done.clocks - s.done.clocks)) (in_whole from s)) (ended_at e (in_whole from s)) ≡ call L write size lent left (in_whole from s)
    ends_same s e left (is_done _) = ap (λ (t : ℕ). call L write size lent t (in_whole from s)) (omega arith)
    ends_same s e left (is_spent more z) = sym (call_spent L write size lent left (in_whole from s) z (omega arith))
    ends_same s e zero (is_starved more some l) = absurd (let z : ⊥ = omega arith in z)
    ends_same s e (suc t) (is_starved more some l) = sym (call_starved L write size lent t (in_whole from s) (omega arith) l)
    ends_same s e zero (is_stalled more some l m) = absurd (let z : ⊥ = omega arith in z)
    ends_same s e (suc t) (is_stalled more some l m) = sym (call_stalled L write size lent t (in_whole from s) (omega arith) l (moves_same s.counters ∙ m))
    ends_same s e zero (is_full_lem more some l m f r) = absurd (let z : ⊥ = omega arith in z)
    ends_same s e (suc t) (is_full_lem more some l m f r) =
        sym (call_full L write size lent t (in_whole from s) (omega arith) l (moves_same s.counters ∙ m) (fires_same s.counters ∙ f) r)

    clocks_same : (t : ℕ) (s : Standing) → Looked S write size lent (suc t) s goes
        → call L write size lent (suc t) (in_whole from s) ≡ call L write size lent t (in_whole from (clocked S write size lent s))
    clocks_same t s (is_going more _ l m r) = go (fires S s.counters) refl ∙ ap (call L write size lent t) (clocked_same s)
      where
        go : (b : Bool) → fires S s.counters ≡ b → call L write size lent (suc t) (in_whole from s) ≡ call L write size lent t (clocked L write size lent (in_whole from s))
        go true f = call_fires L write size lent t (in_whole from s) (omega arith) l (moves_same s.counters ∙ m) (fires_same s.counters ∙ f) (r f)
        go false f = call_idle L write size lent t (in_whole from s) (omega arith) l (moves_same s.counters ∙ m) (fires_same s.counters ∙ f)

    resumes_on : (left : ℕ) (s : Standing) (r : Ended) → Looked S write size lent (suc left) s goes → Resumes left (clocked S write size lent s) r → Resumes (suc left) s r
    unfolding clocked
    resumes_on left s r h p =
        let e : suc left - (r.standing.done.clocks - s.done.clocks) ≡ left - (r.standing.done.clocks - suc s.done.clocks) = omega (arith, p.since) in
        record { since = omega (arith, p.since); is = rw e (p.is ∙ sym (clocks_same left s h)) }

    pub stretch_resumes : (left : ℕ) (s : Standing) → Resumes left s (call S write size lent left s)
    stretch_resumes =
        along_call S write size lent (λ left s r _. Resumes left s r)
        (λ left s e h. record { since = omega arith; is = ends_same s e left h }) (λ left s r _ h p. resumes_on left s r h p)

-- A call that is done made every firing.
abbrev WhereDone : Ending → Type 0 → Type 0
WhereDone Done A = A
WhereDone Spent A = Unit {0}
WhereDone Starved A = Unit {0}
WhereDone Stalled A = Unit {0}
WhereDone Full A = Unit {0}

module _ (L : Layout) (write : List ℕ → List ℕ) (size : ℕ) (lent : List ℕ) (left : ℕ) (s : Standing) (e : Ended) (is : e ≡ call L write size lent left s) where
  where_done : WhereDone e.ending (L.iterations ≤ e.standing.counters.fired)
  where_done = rw is (by_look_lem (ends_so L write size lent left s).why)
    where
      by_look_lem : {t : ℕ} {x : Standing} {y : Ending} → Looked L write size lent t x (ends y) → WhereDone y (L.iterations ≤ x.counters.fired)
      by_look_lem (is_done h) = h
      by_look_lem (is_spent _ _) = tt
      by_look_lem (is_starved _ _ _) = tt
      by_look_lem (is_stalled _ _ _ _) = tt
      by_look_lem (is_full_lem _ _ _ _ _ _) = tt

  pub all_fired : e.ending ≡ Done → L.iterations ≤ e.standing.counters.fired
  all_fired d = subst (λ (y : Ending). WhereDone y (L.iterations ≤ e.standing.counters.fired)) d where_done

  -- and one that made every firing is done.
  pub done_so : L.iterations ≤ e.standing.counters.fired → e.ending ≡ Done
  done_so = rw is (by_look_lem (ends_so L write size lent left s).why)
    where
      by_look_lem : {t : ℕ} {x : Standing} {y : Ending} → Looked L write size lent t x (ends y) → L.iterations ≤ x.counters.fired → y ≡ Done
      by_look_lem (is_done _) h = refl
      by_look_lem (is_spent more _) h = absurd (omega arith)
      by_look_lem (is_starved more _ _) h = absurd (omega arith)
      by_look_lem (is_stalled more _ _ _) h = absurd (omega arith)
      by_look_lem (is_full_lem more _ _ _ _ _) h = absurd (omega arith)

later_resumed : (a b m : ℕ) (front : List ℕ) (e : Ending) (rest ended : Ended)
    → ended_later a b m front (resumed e rest ended) ≡ resumed e (ended_later a b m front rest) (ended_later a b m front ended)
later_resumed a b m front Done rest ended = refl
later_resumed a b m front Spent rest ended = refl
later_resumed a b m front Starved rest ended = refl
later_resumed a b m front Stalled rest ended = refl
later_resumed a b m front Full rest ended = refl

-- A call that took a cells and made b clocks and m firings goes on by a stretch, which is lent what is left of cells, output and allowance.
module _ (L : Layout) (from until : ℕ) (within : until ≤ L.iterations) (write : List ℕ → List ℕ) (size : ℕ) (lent out : List ℕ) (allowance a b m : ℕ)
    (had : a ≤ length lent) (room : m * size ≤ length out) where
  pub goes_on_lem : (j j' c x f : ℕ) (ps ps' store store' out' : List ℕ) (e : Ending)
      → ended_at e (stand j' ps' store' out' c x f) ≡ call (stretch from until L) write size (drop a lent) (allowance - b) (stand j ps store (drop (m * size) out) 0 0 0)
      → let now = stand (from + j') ps' store' (take (m * size) out ++ out') (a + c) (b + x) (m + f) in
      resumed e (call L write size lent (allowance - (b + x)) now) (ended_at e now) ≡ call L write size lent (allowance - b) (stand (from + j) ps store out a b m)
  goes_on_lem j j' c x f ps ps' store store' out' e h =
      let front = take (m * size) out in
      let R = subst (λ (r : Ended). Resumes L from until within write size (drop a lent) (allowance - b) (stand j ps store (drop (m * size) out) 0 0 0) r) (sym h)
      (stretch_resumes L from until within write size (drop a lent) (allowance - b) (stand j ps store (drop (m * size) out) 0 0 0)) in
      let left : allowance - (b + x) ≡ allowance - b - (x - 0) = omega arith in
      let behind = stand (from + j') ps' store' out' c x f in
      let whole = call_later L write size lent front a b m had (length-take-le (m * size) out room) in
      let begun = rw (take-append-drop (m * size) out, add-zero a, add-zero b, add-zero m) at
      (whole (allowance - b) (stand (from + j) ps store (drop (m * size) out) 0 0 0)) in
      rw left
      (ap (λ (r : Ended). resumed e r (ended_at e (later a b m front behind))) (whole (allowance - b - (x - 0)) behind)
      ∙ sym (later_resumed a b m front e (call L write size (drop a lent) (allowance - b - (x - 0)) behind) (ended_at e behind))
      ∙ ap (ended_later a b m front) R.is
      ∙ sym begun)

  -- The layout's invariant is kept.
  pub keeps_on : Lawful L → (j j' c x f : ℕ) (ps ps' store store' out' : List ℕ) (e : Ending)
      → ended_at e (stand j' ps' store' out' c x f) ≡ call (stretch from until L) write size (drop a lent) (allowance - b) (stand j ps store (drop (m * size) out) 0 0 0)
      → Invariant L (counting (from + j) ps) → Invariant L (counting (from + j') ps')
  keeps_on l j j' c x f ps ps' store store' out' e h i =
      subst (λ (r : Ended). Invariant L (in_whole from r.standing).counters) (sym h)
      (stretch_keeps L from until within write size (drop a lent) l (allowance - b) (stand j ps store (drop (m * size) out) 0 0 0) i)

  -- The last stretch ends the call.
  pub ends_last : until ≡ L.iterations → (j j' c x f : ℕ) (ps ps' store store' out' : List ℕ) (e : Ending)
      → ended_at e (stand j' ps' store' out' c x f) ≡ call (stretch from until L) write size (drop a lent) (allowance - b) (stand j ps store (drop (m * size) out) 0 0 0)
      → ended_at e (stand (from + j') ps' store' (take (m * size) out ++ out') (a + c) (b + x) (m + f)) ≡ call L write size lent (allowance - b) (stand (from + j) ps store out a b m)
  ends_last u j j' c x f ps ps' store store' out' e h =
      go e (where_done (stretch from until L) write size (drop a lent) (allowance - b) (stand j ps store (drop (m * size) out) 0 0 0) (ended_at e (stand j' ps' store' out' c x f)) h)
      (goes_on_lem j j' c x f ps ps' store store' out' e h)
    where
      now : Standing
      now = stand (from + j') ps' store' (take (m * size) out ++ out') (a + c) (b + x) (m + f)

      go : (e : Ending) → WhereDone e (until - from ≤ j') → {r : Ended} → resumed e (call L write size lent (allowance - (b + x)) now) (ended_at e now) ≡ r → ended_at e now ≡ r
      go Done d g = sym (call_done L write size lent (allowance - (b + x)) now (omega arith)) ∙ g
      go Spent d g = g
      go Starved d g = g
      go Stalled d g = g
      go Full d g = g
