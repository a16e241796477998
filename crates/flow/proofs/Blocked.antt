-- The first blocked iteration of a layout: one is, or none.
use Prim.Native.Nat.{ℕ, zero, suc, ◌+◌, ◌-◌, ◌≤◌, ◌<◌}
use mathlib.Core.Logic.{◌⊎◌, inl, inr}
use mathlib.Core.Path.{◌≡◌}
use native.Mathlib.Omega.{arith}
use native.Mathlib.Decide.{ℕ_discrete, dec_lt, dec_le}
use Rattle.model_run.specs.Clock.{Layout}
use Rattle.flow.specs.Machine.{Spans, Flows, FlowsUpTo}

-- The first number below n that fails a test, if one does.
pub record Fails (P : ℕ → Type 0) (n : ℕ) : Type 0 where
  pub at : ℕ
  pub below : at < n
  pub before : (f : ℕ) → f < at → P f
  pub fails : P at → ⊥

pub search : (P : ℕ → Type 0) → ((f : ℕ) → Dec (P f)) → (n : ℕ) → ((f : ℕ) → f < n → P f) ⊎ Fails P n
search P test zero = inl (λ f h. absurd (omega arith))
search P test (suc n) = go (search P test n) (test n)
  where
    go : ((f : ℕ) → f < n → P f) ⊎ Fails P n → Dec (P n) → ((f : ℕ) → f < suc n → P f) ⊎ Fails P (suc n)
    go (inr x) d = inr (record { at = x.at; below = omega (arith, x.below); before = x.before; fails = x.fails })
    go (inl all) (yes p) = inl (λ f h. last f h (ℕ_discrete f n))
      where
        last : (f : ℕ) → f < suc n → Dec (f ≡ n) → P f
        last f h (yes e) = rw e p
        last f h (no e) = all f (omega arith)
    go (inl all) (no p) = inr (record { at = n; below = omega arith; before = all; fails = p })

module _ (L : Layout) where
  open L use {wants, capacity, filters, iterations}

  test_pair : (f k : ℕ) → Dec (Spans L f k)
  test_pair f k = go (dec_lt (wants f (suc k)) (wants f k)) (dec_le (wants f k) (wants f (suc k) + capacity k))
    where
      go : Dec (wants f (suc k) < wants f k) → Dec (wants f k ≤ wants f (suc k) + capacity k) → Dec (Spans L f k)
      go (yes a) (yes b) = yes (record { falls = a; fits = b })
      go (no a) b = no (λ s. a s.falls)
      go (yes a) (no b) = no (λ s. b s.fits)

  pub test : (f : ℕ) → Dec (Flows L f)
  test f = go (search (Spans L f) (test_pair f) (filters - 1))
    where
      go : ((k : ℕ) → k < filters - 1 → Spans L f k) ⊎ Fails (Spans L f) (filters - 1) → Dec (Flows L f)
      go (inl all) = yes (λ k g. all k (omega arith))
      go (inr x) = no (λ fl. x.fails (fl x.at (omega (arith, x.below))))

  pub first_blocked : (B : ℕ) × FlowsUpTo L B
  first_blocked = go (search (Flows L) test iterations)
    where
      go : ((f : ℕ) → f < iterations → Flows L f) ⊎ Fails (Flows L) iterations → (B : ℕ) × FlowsUpTo L B
      go (inl all) = (iterations, record { most = omega arith; before = all; ends = λ h. absurd (omega arith) })
      go (inr x) = (x.at, record { most = omega (arith, x.below); before = x.before; ends = λ _. x.fails })
