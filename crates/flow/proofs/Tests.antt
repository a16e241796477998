-- What the tests `fires`, `moves` and `live` say, and a clock by its cases.
use Prim.Native.Nat.{ℕ, suc, ◌<◌}
use mathlib.Core.Bool.{Bool, true, false, cond, ◌&&◌, false≢true, and-eq-true_iff}
use mathlib.Core.List.{List, [], ◌∷◌, map}
use mathlib.Core.Path.{◌≡◌, refl, sym, ◌∙◌}
use lib.Dec.{ltb, eqb}
use borrow.Author.Tests.{ltb-true, eqb-true, lt-ltb, eq-eqb}
use Rattle.model.specs.Lists.{sum}
use Rattle.model_run.specs.Clock.{Layout, Counters, turns, ready, fires, next, moves}
use Rattle.flow.specs.Machine.{live, clock, Ready, Fires}

module _ (L : Layout) where
  open L use {wants, capacity, cells, iterations}

  pub ready_yes : (f k source : ℕ) (ps : List ℕ) → ready (wants f) k source ps ≡ true → Ready L f k source ps
  unfolding ready
  ready_yes f k source [] e = tt
  ready_yes f k source (p ∷ ps) e =
      let a = (and-eq-true_iff (ltb p source) (eqb p (wants f k) && ready (wants f) (suc k) p ps)).0 e in
      let b = (and-eq-true_iff (eqb p (wants f k)) (ready (wants f) (suc k) p ps)).0 a.1 in
      (ltb-true p source a.0, eqb-true p (wants f k) b.0, ready_yes f (suc k) p ps b.1)

  pub yes_ready : (f k source : ℕ) (ps : List ℕ) → Ready L f k source ps → ready (wants f) k source ps ≡ true
  unfolding ready
  yes_ready f k source [] r = refl
  yes_ready f k source (p ∷ ps) r = rw (lt-ltb p source r.0, eq-eqb p (wants f k) r.1) (yes_ready f (suc k) p ps r.2)

  pub fires_yes : (s : Counters) → fires L s ≡ true → Fires L s
  unfolding fires
  fires_yes s e = ready_yes s.fired 0 cells s.passed e

  pub yes_fires : (s : Counters) → Fires L s → fires L s ≡ true
  unfolding fires
  yes_fires s r = yes_ready s.fired 0 cells s.passed r

  pub moves_yes : (s : Counters) → moves L s ≡ true → sum s.passed < sum (next L s).passed
  unfolding moves
  moves_yes s e = ltb-true (sum s.passed) (sum (next L s).passed) e

  pub yes_moves : (s : Counters) → sum s.passed < sum (next L s).passed → moves L s ≡ true
  unfolding moves
  yes_moves s h = lt-ltb (sum s.passed) (sum (next L s).passed) h

  pub live_yes : (s : Counters) → live L s ≡ true → (s.fired < iterations) × (moves L s ≡ true)
  unfolding live
  live_yes s e = let a = (and-eq-true_iff (ltb s.fired iterations) (moves L s)).0 e in (ltb-true s.fired iterations a.0, a.1)

  pub yes_live : (s : Counters) → s.fired < iterations → moves L s ≡ true → live L s ≡ true
  unfolding live
  yes_live s left moving = rw (lt-ltb s.fired iterations left) moving

  pub clock_live : (s : Counters) → live L s ≡ true → clock L s ≡ next L s
  unfolding clock
  clock_live s alive = rw alive

  pub clock_still : (s : Counters) → live L s ≡ false → clock L s ≡ s
  unfolding clock
  clock_still s dead = rw dead

  -- A clock fires, or its splitters have their turns.
  abbrev pub fired_once : Counters → Counters
  fired_once s = record { fired = suc s.fired; passed = map suc s.passed }

  abbrev pub turned_once : Counters → Counters
  turned_once s = record { fired = s.fired; passed = turns (wants s.fired) capacity 0 cells s.passed }

  pub by_next : (P : Counters → Type 0) (s : Counters) → (Fires L s → P (fired_once s)) → (¬ Fires L s → P (turned_once s)) → P (next L s)
  unfolding next
  by_next P s firing turning = go (fires L s) refl
    where
      go : (b : Bool) → fires L s ≡ b → P (cond b (fired_once s) (turned_once s))
      go true e = firing (fires_yes s e)
      go false e = turning (λ r. false≢true (sym e ∙ yes_fires s r))
