-- Clocks with their events: what each event says of the counters at its clock.
use Prim.Native.Nat.{ℕ, zero, suc, ◌+◌, ◌<◌}
use mathlib.Core.Bool.{Bool, true, false, cond, false≢true}
use mathlib.Core.List.{List, [], ◌∷◌, ◌++◌}
use mathlib.Core.Path.{◌≡◌, refl, sym, ◌∙◌, ap}
use native.Mathlib.Omega.{arith}
use lib.ListN.{length, get_or, take}
use Rattle.model_run.specs.Clock.{Layout, Counters, fires, next}
use Rattle.model_run.specs.CallLists.{firings_among}
use Rattle.flow.specs.Machine.{live, Ran}
use Rattle.flow.proofs.Tests.{clock_live, fired_once, turned_once}
use Rattle.flow.proofs.Runs.{still, step}

module _ (L : Layout) where
  -- The clocks whose events are the list lead from s to s'.
  pub data Traced : Counters → List Bool → Counters → Type 0 where
    ended : {s : Counters} → Traced s [] s
    clocked : {s s' : Counters} {es : List Bool} → live L s ≡ true → Traced (next L s) es s' → Traced s (fires L s ∷ es) s'

  pub traced_ran : {s s' : Counters} {es : List Bool} → Traced s es s' → Ran L s (length es) s'
  traced_ran {s} ended = still L s
  traced_ran {s} (clocked v r) = step L v (rw (clock_live L s v) (traced_ran r))

  pub traced_join : {s s' s'' : Counters} {es fs : List Bool} → Traced s es s' → Traced s' fs s'' → Traced s (es ++ fs) s''
  traced_join ended q = q
  traced_join (clocked v r) q = clocked v (traced_join r q)

  -- Firings are counted by their events.
  pub fired_next : (s : Counters) → (next L s).fired ≡ cond (fires L s) (suc s.fired) s.fired
  unfolding next
  fired_next s = go (fires L s)
    where
      go : (b : Bool) → (cond b (fired_once L s) (turned_once L s)).fired ≡ cond b (suc s.fired) s.fired
      go true = refl
      go false = refl

  -- One event more, and what it adds.
  count_on : (b : Bool) (m f f' f'' : ℕ) → f'' ≡ m + f' → f' ≡ cond b (suc f) f → f'' ≡ cond b (suc m) m + f
  count_on true m f f' f'' e d = omega arith
  count_on false m f f' f'' e d = omega arith

  pub traced_fired : {s s' : Counters} {es : List Bool} → Traced s es s' → s'.fired ≡ firings_among es + s.fired
  unfolding firings_among
  traced_fired ended = omega arith
  traced_fired {s} (clocked v r) = count_on (fires L s) _ _ _ _ (traced_fired r) (fired_next s)

  -- What event t says: the counters at clock t, which are reached by t clocks, the firings among those, and whether that clock fires.
  pub record At (s : Counters) (es : List Bool) (t : ℕ) : Type 0 where
    pub now : Counters
    pub ran : Ran L s t now
    pub fired : now.fired ≡ firings_among (take t es) + s.fired
    pub live : live L now ≡ true
    pub event : get_or es t false ≡ fires L now

  pub at : {s s' : Counters} {es : List Bool} → Traced s es s' → (t : ℕ) → t < length es → At s es t
  unfolding firings_among
  at ended t h = absurd (let z : ⊥ = omega arith in z)
  at {s} (clocked v r) zero h = record { now = s; ran = still L s; fired = omega arith; live = v; event = refl }
  at {s} (clocked v r) (suc t) h =
      let a = at r t (omega arith) in
      record { now = a.now; ran = step L v (rw (clock_live L s v) a.ran); fired = count_on (fires L s) _ _ _ _ a.fired (fired_next s); live = a.live; event = a.event }

  -- Counters with no clock to make stay.
  pub still_traced : {s s' : Counters} {es : List Bool} → Traced s es s' → live L s ≡ false → es ≡ []
  still_traced ended e = refl
  still_traced (clocked v r) e = absurd (false≢true (sym e ∙ v))

  -- Equally many clocks from the same counters have the same events and lead to the same counters.
  pub traced_same : {s s' s'' : Counters} {es fs : List Bool} → Traced s es s' → Traced s fs s'' → length es ≡ length fs → (es ≡ fs) × (s' ≡ s'')
  traced_same ended ended e = (refl, refl)
  traced_same ended (clocked v r) e = absurd (omega arith)
  traced_same (clocked v r) ended e = absurd (omega arith)
  traced_same {s} (clocked v r) (clocked w u) e = let (x, y) = traced_same r u (omega arith) in (ap (λ (l : List Bool). fires L s ∷ l) x, y)
