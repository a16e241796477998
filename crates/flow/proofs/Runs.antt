-- Runs put together and taken apart.
use Prim.Native.Nat.{ℕ, zero, suc, ◌+◌}
use mathlib.Core.Bool.{Bool, true, false, cond, false≢true}
use mathlib.Core.Path.{◌≡◌, refl, sym, ◌∙◌, ap}
use native.Mathlib.Nat.{zero-add, suc-add}
use native.Mathlib.Omega.{arith}
use Rattle.model_run.specs.Clock.{Layout, Counters, next}
use Rattle.flow.specs.Machine.{live, clock, run, made, Ran}
use Rattle.flow.proofs.Tests.{clock_live, clock_still}

module _ (L : Layout) where
  -- No clock.
  pub still : (s : Counters) → Ran L s 0 s
  unfolding run made
  still s = record { state = refl; each = refl }

  -- A clock, and then a run.
  pub step : {s s' : Counters} {t : ℕ} → live L s ≡ true → Ran L (clock L s) t s' → Ran L s (suc t) s'
  unfolding run made
  step alive r = record { state = r.state; each = rw alive (ap suc r.each) }

  unstep : {s s' : Counters} {t : ℕ} → Ran L s (suc t) s' → (live L s ≡ true) × Ran L (clock L s) t s'
  unfolding run made
  unstep {s} {s'} {t} r = go (live L s) refl r.each
    where
      go : (b : Bool) → live L s ≡ b → cond b (suc (made L t (clock L s))) 0 ≡ suc t → (live L s ≡ true) × Ran L (clock L s) t s'
      go true alive e = (alive, record { state = r.state; each = omega arith })
      go false dead e = absurd (let z : ⊥ = omega arith in z)

  -- One run after another.
  pub join : {s s' s'' : Counters} {t t' : ℕ} → Ran L s t s' → Ran L s' t' s'' → Ran L s (t + t') s''
  unfolding run
  join {t = zero} r r' = rw zero-add (rw r.state at r')
  join {s} {t = suc t} r r' = let u = unstep r in rw suc-add (step u.0 (join {s = clock L s} {t = t} u.1 r'))

  -- Two runs from the same counters that have stopped are the same.
  pub stopped_same : {s s' s'' : Counters} {t t' : ℕ} → Ran L s t s' → live L s' ≡ false → Ran L s t' s'' → live L s'' ≡ false → (t ≡ t') × (s' ≡ s'')
  unfolding run
  stopped_same {t = zero} {t' = zero} r d r' d' = (refl, r.state ∙ sym r'.state)
  stopped_same {t = zero} {t' = suc t'} r d r' d' = absurd (false≢true (sym d ∙ rw r.state (unstep r').0))
  stopped_same {t = suc t} {t' = zero} r d r' d' = absurd (false≢true (sym d' ∙ rw r'.state (unstep r).0))
  stopped_same {s} {t = suc t} {t' = suc t'} r d r' d' = let same = stopped_same {s = clock L s} {t = t} {t' = t'} (unstep r).1 d (unstep r').1 d' in (ap suc same.0, same.1)

  run_still : (t : ℕ) (s : Counters) → live L s ≡ false → run L t s ≡ s
  unfolding run
  run_still zero s dead = refl
  run_still (suc t) s dead = rw (clock_still L s dead) (run_still t s dead)

  -- Where t clocks are allowed, those made are a run.
  pub made_ran : (t : ℕ) (s : Counters) → Ran L s (made L t s) (run L t s)
  unfolding run made
  made_ran zero s = still s
  made_ran (suc t) s = go (live L s) refl (made_ran t (clock L s))
    where
      go : (b : Bool) → live L s ≡ b → Ran L (clock L s) (made L t (clock L s)) (run L t (clock L s))
          → Ran L s (cond b (suc (made L t (clock L s))) 0) (run L t (clock L s))
      go true alive r = step alive r
      go false dead r = rw (clock_still L s dead, run_still t s dead) (still s)

  -- A run's last clock.
  last : (t : ℕ) (s s'' : Counters) → Ran L s (suc t) s'' → (s' : Counters) × Ran L s t s' × (live L s' ≡ true) × (s'' ≡ next L s')
  unfolding run
  last zero s s'' r = let u = unstep r in (s, still s, u.0, u.1.state ∙ clock_live L s u.0)
  last (suc t) s s'' r =
      let u = unstep r in
      let l = last t (clock L s) s'' u.1 in
      (l.0, step u.0 l.1, l.2, l.3)

  -- What holds at the start of a run and is kept by each of its clocks holds at its end.
  pub along : {s : Counters} (P : ℕ → Counters → Type 0) → P 0 s → ((t : ℕ) (x : Counters) → Ran L s t x → live L x ≡ true → P t x → P (suc t) (next L x))
      → {t : ℕ} {s' : Counters} → Ran L s t s' → P t s'
  unfolding run
  along P start kept {t = zero} r = rw r.state start
  along {s} P start kept {t = suc t} {s' = s''} r =
      let l = last t s s'' r in
      rw l.3 (kept t l.0 l.1 l.2 (along P start kept {t = t} l.1))
