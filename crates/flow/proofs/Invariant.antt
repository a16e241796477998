-- Fresh counters have the invariant, every clock keeps it, and what it says of filter 0.
use Prim.Native.Nat.{ℕ, zero, suc, ◌+◌, ◌≤◌, ◌<◌}
use mathlib.Core.List.{List, [], ◌∷◌, map}
use mathlib.Core.Path.{◌≡◌}
use native.Mathlib.Omega.{arith}
use lib.ListN.{replicate}
use Rattle.model_run.specs.Clock.{Layout, Counters, limit, turns, next, fresh}
use Rattle.flow.specs.Machine.{first, Ran, Lawful, Holds, Invariant, Ready}
use Rattle.flow.proofs.Tests.{live_yes, by_next}
use Rattle.flow.proofs.Runs.{along}
use Rattle.flow.proofs.Turns.{behind, moved, moved_turned}

module _ (L : Layout) where
  open L use {wants, capacity, filters, cells, iterations}

  pub fresh_holds : (m k source : ℕ) → k + m ≡ filters → Holds L 0 k source (replicate m 0)
  fresh_holds zero k source e = omega arith
  fresh_holds (suc zero) k source e = omega arith
  fresh_holds (suc (suc m)) k source e = (omega arith, fresh_holds (suc m) (suc k) 0 (omega arith))

  pub fresh_invariant : Invariant L (fresh L)
  unfolding fresh
  fresh_invariant = record { most = omega arith; all = fresh_holds filters 0 cells (omega arith) }

  -- The source may let more cells through.
  raise : (f k source source' : ℕ) (ps : List ℕ) → source ≤ source' → Holds L f k source ps → Holds L f k source' ps
  raise f k source source' [] more held = held
  raise f k source source' (p ∷ ps) more held =
      let here = held.0 in
      (record { filter = here.filter; fired = here.fired; wanted = here.wanted; sourced = omega arith; fits = here.fits }, held.1)

  pub turns_hold : (f k source : ℕ) (ps : List ℕ) → Holds L f k source ps → Holds L f k source (turns (wants f) capacity k source ps)
  unfolding turns limit
  turns_hold f k source [] held = held
  turns_hold f k source (p ∷ []) held =
      let here = moved_turned L f k source p [] in
      let kept = here.keeps held.0.sourced held.0.wanted (omega arith) in
      (omega arith, held.1)
  turns_hold f k source (p ∷ q ∷ qs) held =
      let there = moved_turned L f (suc k) p q qs in
      let here = moved_turned L f k source p (q ∷ qs) in
      let kept = here.keeps held.0.sourced held.0.wanted (omega arith) in
      (omega arith, raise f (suc k) p (moved L f k source p (q ∷ qs)) (behind L f k p (q ∷ qs)) here.grows (turns_hold f (suc k) p (q ∷ qs) held.1))

  -- Filter 0 is not past the cell that it wants.
  pub first_wanted : (s : Counters) → Invariant L s → first s.passed ≤ wants s.fired 0
  first_wanted s inv = go s.passed inv.all
    where
      go : (ps : List ℕ) → Holds L s.fired 0 cells ps → first ps ≤ wants s.fired 0
      go [] held = omega arith
      go (p ∷ ps) held = held.0.wanted

  module _ (lawful : Lawful L) where
    -- While a firing is left there is a cell for filter 0.
    pub first_below : (s : Counters) → Invariant L s → s.fired < iterations → first s.passed < cells
    first_below s inv left = omega (arith, first_wanted s inv, lawful.rises s.fired 0 left lawful.some, lawful.within (suc s.fired) 0 left lawful.some)

    pub firing_holds : (f k source : ℕ) (ps : List ℕ) → f < iterations → Ready L f k source ps → Holds L f k source ps → Holds L (suc f) k source (map suc ps)
    firing_holds f k source [] left ready held = held
    firing_holds f k source (p ∷ []) left ready held = (omega (arith, lawful.rises f k left held.0.filter), held.1)
    firing_holds f k source (p ∷ q ∷ qs) left ready held =
        let rest = firing_holds f (suc k) p (q ∷ qs) left ready.2 held.1 in
        (omega (arith, lawful.rises f k left held.0.filter), raise (suc f) (suc k) p (suc p) (map suc (q ∷ qs)) (omega arith) rest)

    pub next_invariant : (s : Counters) → s.fired < iterations → Invariant L s → Invariant L (next L s)
    next_invariant s left inv = by_next L (Invariant L) s
        (λ ready. record { most = left; all = firing_holds s.fired 0 cells s.passed left ready inv.all })
        (λ _. record { most = inv.most; all = turns_hold s.fired 0 cells s.passed inv.all })

    pub ran_keeps : {s s' : Counters} {t : ℕ} → Ran L s t s' → Invariant L s → Invariant L s'
    ran_keeps ran inv = along L (λ _. Invariant L) inv (λ t x _ alive. next_invariant x (live_yes L x alive).0) ran
