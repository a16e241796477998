-- What a look before a clock finds, and induction over the clocks of a call.
use Prim.Native.Nat.{ℕ, zero, suc, ◌+◌, ◌*◌, ◌≤◌, ◌<◌}
use mathlib.Core.Bool.{Bool, true, false, not, cond, ◌&&◌, false≢true}
use mathlib.Core.List.{List, [], ◌∷◌}
use mathlib.Core.Path.{◌≡◌, refl, sym, ◌∙◌}
use native.Mathlib.Omega.{arith}
use lib.Dec.{eqb, ltb, leb}
use lib.ListN.{length}
use borrow.Author.Tests.{ltb-true, ltb-false, leb-true, leb-false, eqb-true, eqb-false}
use Rattle.model_run.specs.Clock.{Layout, fires, moves}
use Rattle.model_run.specs.Running.{Standing, Ending, Done, Spent, Starved, Stalled, Full, Look, goes, ends, Ended, by_look, while_going, clocked, look, call, events}

module _ (L : Layout) (write : List ℕ → List ℕ) (size : ℕ) (lent : List ℕ) where
  -- The five lines, and a clock that is made; each with what held on the way.
  pub data Looked (left : ℕ) (s : Standing) : Look → Type 0 where
    is_done : L.iterations ≤ s.counters.fired → Looked left s (ends Done)
    is_spent : s.counters.fired < L.iterations → left ≡ 0 → Looked left s (ends Spent)
    is_starved : s.counters.fired < L.iterations → 0 < left → length lent ≤ s.done.cells → Looked left s (ends Starved)
    is_stalled : s.counters.fired < L.iterations → 0 < left → s.done.cells < length lent → moves L s.counters ≡ false → Looked left s (ends Stalled)
    is_full_lem : s.counters.fired < L.iterations → 0 < left → s.done.cells < length lent → moves L s.counters ≡ true
        → fires L s.counters ≡ true → length s.output < s.done.firings * size + size → Looked left s (ends Full)
    is_going : s.counters.fired < L.iterations → 0 < left → s.done.cells < length lent → moves L s.counters ≡ true
        → (fires L s.counters ≡ true → s.done.firings * size + size ≤ length s.output) → Looked left s goes

  pub looked : (left : ℕ) (s : Standing) → Looked left s (look L write size lent left s)
  unfolding look
  looked left s = go (leb L.iterations s.counters.fired) (eqb left 0) (leb (length lent) s.done.cells) (moves L s.counters) (fires L s.counters)
      (ltb (length s.output) (s.done.firings * size + size)) refl refl refl refl refl refl
    where
      go : (a b c d e f : Bool) → leb L.iterations s.counters.fired ≡ a → eqb left 0 ≡ b → leb (length lent) s.done.cells ≡ c → moves L s.counters ≡ d
          → fires L s.counters ≡ e → ltb (length s.output) (s.done.firings * size + size) ≡ f
          → Looked left s (cond a (ends Done) (cond b (ends Spent) (cond c (ends Starved) (cond (not d) (ends Stalled) (cond (e && f) (ends Full) goes)))))
      go true b c d e f p q r u v w = is_done (leb-true _ _ p)
      go false true c d e f p q r u v w = is_spent (leb-false _ _ p) (eqb-true _ _ q)
      go false false true d e f p q r u v w = let z = eqb-false left 0 q in is_starved (leb-false _ _ p) (omega arith) (leb-true _ _ r)
      go false false false false e f p q r u v w = let z = eqb-false left 0 q in is_stalled (leb-false _ _ p) (omega arith) (leb-false _ _ r) u
      go false false false true true true p q r u v w = let z = eqb-false left 0 q in is_full_lem (leb-false _ _ p) (omega arith) (leb-false _ _ r) u v (ltb-true _ _ w)
      go false false false true true false p q r u v w =
          let z = eqb-false left 0 q in is_going (leb-false _ _ p) (omega arith) (leb-false _ _ r) u (λ _. ltb-false _ _ w)
      go false false false true false f p q r u v w =
          let z = eqb-false left 0 q in is_going (leb-false _ _ p) (omega arith) (leb-false _ _ r) u (λ x. absurd (false≢true (sym v ∙ x)))

  -- A property of a call from here on, given its end and its events, that holds where it ends and is handed on by a clock.
  pub along_call : (P : ℕ → Standing → Ended → List Bool → Type 0)
      → ((left : ℕ) (s : Standing) (e : Ending) → Looked left s (ends e) → P left s (record { ending = e; standing = s }) [])
      → ((left : ℕ) (s : Standing) (r : Ended) (es : List Bool) → Looked (suc left) s goes → P left (clocked L write size lent s) r es
      → P (suc left) s r (fires L s.counters ∷ es))
      → (left : ℕ) (s : Standing) → P left s (call L write size lent left s) (events L write size lent left s)
  unfolding call events
  along_call P stop go zero s = last (look L write size lent zero s) (looked zero s)
    where
      last : (l : Look) → Looked zero s l → P zero s (by_look l s (record { ending = Spent; standing = s })) []
      last (ends e) h = stop zero s e h
      last goes (is_going _ z _ _ _) = absurd (let y : ⊥ = omega arith in y)
  along_call P stop go (suc left) s = next (look L write size lent (suc left) s) (looked (suc left) s) (along_call P stop go left (clocked L write size lent s))
    where
      next : (l : Look) → Looked (suc left) s l
          → P left (clocked L write size lent s) (call L write size lent left (clocked L write size lent s)) (events L write size lent left (clocked L write size lent s))
          → P (suc left) s (by_look l s (call L write size lent left (clocked L write size lent s)))
          (while_going l (fires L s.counters ∷ events L write size lent left (clocked L write size lent s)))
      next (ends e) h p = stop (suc left) s e h
      next goes h p = go left s _ _ h p
