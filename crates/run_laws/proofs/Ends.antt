-- Where a call ends: the look that ended it, with what is left of the allowance.
use Prim.Native.Nat.{ℕ, ◌+◌}
use mathlib.Core.Bool.{Bool}
use mathlib.Core.List.{List}
use mathlib.Core.Path.{◌≡◌, refl}
use native.Mathlib.Omega.{arith}
use lib.ListN.{length}
use Rattle.model_run.specs.Clock.{Layout}
use Rattle.model_run.specs.Running.{Standing, ends, Ended, call, events}
use Rattle.run_laws.proofs.Looks.{Looked, along_call}

module _ (L : Layout) (write : List ℕ → List ℕ) (size : ℕ) (lent : List ℕ) where
  pub record EndsSo (left : ℕ) (r : Ended) (es : List Bool) : Type 0 where
    pub rest : ℕ
    pub allowed : rest + length es ≡ left
    pub why : Looked L write size lent rest r.standing (ends r.ending)

  pub ends_so : (left : ℕ) (s : Standing) → EndsSo left (call L write size lent left s) (events L write size lent left s)
  ends_so = along_call L write size lent (λ left _ r es. EndsSo left r es) (λ left s e h. record { rest = left; allowed = omega arith; why = h })
      (λ left s r es _ p. record { rest = p.rest; allowed = omega (arith, p.allowed); why = p.why })

  -- A call that makes no clock ends where it began.
  pub no_clock : (left : ℕ) (s : Standing) → length (events L write size lent left s) ≡ 0 → (call L write size lent left s).standing ≡ s
  no_clock = along_call L write size lent (λ _ s r es. length es ≡ 0 → r.standing ≡ s) (λ left s e h z. refl) (λ left s r es h p z. absurd (omega arith))
