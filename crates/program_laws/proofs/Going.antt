-- Clocks made while cells of a stream are left: a run over its first cells stops in one place, whatever calls it is split over.
use Prim.Native.Nat.{ℕ, suc, ◌+◌, ◌*◌, ◌-◌, ◌≤◌, ◌<◌}
use mathlib.Core.Bool.{Bool, true, false, cond, ◌&&◌, false≢true}
use mathlib.Core.List.{List, [], ◌∷◌}
use mathlib.Core.Path.{◌≡◌, refl, sym, ◌∙◌, ap}
use native.Mathlib.Nat.{zero-add, suc-add, suc-mul}
use native.Mathlib.Omega.{arith}
use lib.Dec.{ltb, leb}
use lib.ListN.{length, get_or}
use lib.Seq.{sets, length-sets}
use borrow.Author.Tests.{lt-ltb, le-ltb, le-leb, lt-leb}
use Rattle.model_run.specs.Clock.{Layout, Counters, first, fires, next, moves}
use Rattle.model_run.specs.Running.{Standing, Ending, Done, Starved, Stalled, goes, Ended, words, clocked, call, events}
use Rattle.flow.specs.Machine.{Lawful}
use Rattle.run_laws.proofs.Looks.{Looked, is_going, along_call}
use Rattle.run_laws.proofs.Held.{Steps, next_steps}
use Rattle.run_laws.proofs.Calls.{Sound, clocked_sound}

module _ (L : Layout) (most : ℕ) where
  -- A firing and a cell are left, and something would move.
  unfoldable pub goes_on : Counters → Bool
  goes_on s = ltb s.fired L.iterations && (ltb (first s.passed) most && moves L s)

  -- How the run ends where it does not go on.
  unfoldable pub ending_at : Counters → Ending
  ending_at s = cond (leb L.iterations s.fired) Done (cond (leb most (first s.passed)) Starved Stalled)

  -- So many clocks, each of them made, lead from one place to the other.
  pub data Gone : Counters → ℕ → Counters → Type 0 where
    still : {s : Counters} → Gone s 0 s
    on : {s s' : Counters} {n : ℕ} → goes_on s ≡ true → Gone (next L s) n s' → Gone s (suc n) s'

  pub gone_join : {s s' s'' : Counters} {n m : ℕ} → Gone s n s' → Gone s' m s'' → Gone s (n + m) s''
  gone_join {m} still h = rw (zero-add m) h
  gone_join {m} (on {n} e g) h = rw (suc-add n m) (on e (gone_join g h))

  -- There is one place where a run stops.
  pub gone_same : {s s' s'' : Counters} {n m : ℕ} → Gone s n s' → goes_on s' ≡ false → Gone s m s'' → goes_on s'' ≡ false → (n ≡ m) × (s' ≡ s'')
  gone_same still p still q = (refl, refl)
  gone_same still p (on e h) q = absurd (false≢true (sym p ∙ e))
  gone_same (on e g) p still q = absurd (false≢true (sym q ∙ e))
  gone_same (on e g) p (on d h) q = let (x, y) = gone_same g p h q in (ap suc x, y)

  pub yes_goes : (s : Counters) → s.fired < L.iterations → first s.passed < most → moves L s ≡ true → goes_on s ≡ true
  unfolding goes_on
  yes_goes s f c m = rw (lt-ltb _ _ f, lt-ltb _ _ c) m

  -- The three ways in which it stops.
  pub done_stops : (s : Counters) → L.iterations ≤ s.fired → (goes_on s ≡ false) × (ending_at s ≡ Done)
  unfolding goes_on ending_at
  done_stops s f = rw (le-ltb _ _ f, le-leb _ _ f) (refl, refl)

  pub starved_stops : (s : Counters) → s.fired < L.iterations → most ≤ first s.passed → (goes_on s ≡ false) × (ending_at s ≡ Starved)
  unfolding goes_on ending_at
  starved_stops s f c = rw (lt-ltb _ _ f, le-ltb _ _ c, lt-leb _ _ f, le-leb _ _ c) (refl, refl)

  pub stalled_stops : (s : Counters) → s.fired < L.iterations → first s.passed < most → moves L s ≡ false → (goes_on s ≡ false) × (ending_at s ≡ Stalled)
  unfolding goes_on ending_at
  stalled_stops s f c m = rw (lt-ltb _ _ f, lt-ltb _ _ c, lt-leb _ _ f, lt-leb _ _ c) (m, refl)

-- A call whose first lent cell is that of position `from`.
module _ (L : Layout) (lawful : Lawful L) (write : List ℕ → List ℕ) (size : ℕ) (lent : List ℕ) (stream : ℕ → ℕ) (from : ℕ)
    (lent_words : (i : ℕ) → i < length lent → get_or lent i 0 ≡ stream (from + i)) (width : (ws : List ℕ) → length ws ≡ L.filters → length (write ws) ≡ size) where
  abbrev SoundHere : Standing → Type 0
  SoundHere = Sound L lawful write size lent stream from lent_words width

  -- Its clocks are clocks of a run over at least its cells.
  pub call_gone : (most : ℕ) → from + length lent ≤ most → (left : ℕ) (s : Standing) → SoundHere s
      → Gone L most s.counters (length (events L write size lent left s)) (call L write size lent left s).standing.counters
  unfolding clocked
  call_gone most fits = along_call L write size lent (λ _ s r es. SoundHere s → Gone L most s.counters (length es) r.standing.counters) (λ _ _ _ _ _. still)
      (λ left s r es h ih snd. clock s r es h snd (ih (clocked_sound L lawful write size lent stream from lent_words width s h snd)))
    where
      clock : {left : ℕ} (s : Standing) (r : Ended) (es : List Bool) → Looked L write size lent (suc left) s goes → SoundHere s
          → Gone L most (next L s.counters) (length es) r.standing.counters → Gone L most s.counters (suc (length es)) r.standing.counters
      clock s r es (is_going f _ c m _) snd g = on (yes_goes L most s.counters f (omega (arith, snd.taken)) m) g

  -- A clock takes at most one cell.
  one_cell_lem : (source : ℕ) (ps qs : List ℕ) → Steps source ps qs → first qs ≤ suc (first ps)
  one_cell_lem source [] [] s = omega arith
  one_cell_lem source [] (q ∷ qs) s = absurd s
  one_cell_lem source (p ∷ ps) [] s = absurd s
  one_cell_lem source (p ∷ ps) (q ∷ qs) s = s.1

  -- No more cells are taken than are lent,
  pub call_taken : (left : ℕ) (s : Standing) → SoundHere s → s.done.cells ≤ length lent → (call L write size lent left s).standing.done.cells ≤ length lent
  unfolding clocked
  call_taken = along_call L write size lent (λ _ s r _. SoundHere s → s.done.cells ≤ length lent → r.standing.done.cells ≤ length lent) (λ _ _ _ _ _ h. h)
      (λ left s r es h ih snd c. ih (clocked_sound L lawful write size lent stream from lent_words width s h snd) (clock s h snd))
    where
      clock : {left : ℕ} (s : Standing) → Looked L write size lent (suc left) s goes → SoundHere s
          → s.done.cells + (first (next L s.counters).passed - first s.counters.passed) ≤ length lent
      clock s (is_going _ _ c _ _) snd =
          omega (arith, one_cell_lem L.cells s.counters.passed (next L s.counters).passed (next_steps L s.counters snd.invariant))

  -- and no more output places are written than are lent.
  pub call_fits : (left : ℕ) (s : Standing) → s.done.firings * size ≤ length s.output
      → (call L write size lent left s).standing.done.firings * size ≤ length (call L write size lent left s).standing.output
  unfolding clocked
  call_fits = along_call L write size lent (λ _ s r _. s.done.firings * size ≤ length s.output → r.standing.done.firings * size ≤ length r.standing.output) (λ _ _ _ _ h. h)
      (λ left s r es h ih f. ih (clock s h f))
    where
      clock : {left : ℕ} (s : Standing) → Looked L write size lent (suc left) s goes → s.done.firings * size ≤ length s.output
          → cond (fires L s.counters) (suc s.done.firings) s.done.firings * size
          ≤ length (cond (fires L s.counters) (sets s.output (s.done.firings * size) (write (words L write size lent s))) s.output)
      clock s (is_going _ _ _ _ room) f = go (fires L s.counters) refl
        where
          go : (b : Bool) → fires L s.counters ≡ b
              → cond b (suc s.done.firings) s.done.firings * size
              ≤ length (cond b (sets s.output (s.done.firings * size) (write (words L write size lent s))) s.output)
          go false e = f
          go true e = omega (arith, room e, suc-mul s.done.firings size, length-sets s.output (s.done.firings * size) (write (words L write size lent s)))
