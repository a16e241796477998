-- Number 11 turns back exactly the counters that break the invariant of the clocks.
use Prim.Native.Nat.{ℕ, zero, suc, ◌+◌, ◌≤◌}
use mathlib.Core.Bool.{false, ◌||◌}
use mathlib.Core.List.{List, [], ◌∷◌}
use mathlib.Core.Path.{◌≡◌, refl}
use native.Mathlib.Omega.{arith}
use lib.Dec.{ltb}
use lib.ListN.{length}
use borrow.Author.Tests.{ltb-false, leb-false, le-ltb, lt-leb}
use Rattle.model_run.specs.Clock.{Layout, Counters}
use Rattle.model_run.specs.Running.{not_past, bad_counter, bad_fifo, bad_filters, bad_state}
use Rattle.grid_laws.proofs.Tests.{neither, both_false}
use Rattle.flow.specs.Machine.{past, Fits, Holds, Invariant}

module _ (L : Layout) where
  open L use {wants, capacity, filters, cells, iterations}

  not_past_lem : (f k p : ℕ) → past L f k ≤ p → not_past L f k p ≡ false
  unfolding not_past
  not_past_lem zero k p h = refl
  not_past_lem (suc f) k p h = lt-leb p (wants f k) h

  past_it : (f k p : ℕ) → not_past L f k p ≡ false → past L f k ≤ p
  unfolding not_past
  past_it zero k p e = omega arith
  past_it (suc f) k p e = leb-false p (wants f k) e

  -- The filters from k on, no one of which is above `cells`.
  holds_good : (f k source : ℕ) (ps : List ℕ) → source ≤ cells → Holds L f k source ps → bad_filters L f k ps ≡ false
  unfolding bad_filters bad_counter bad_fifo
  holds_good f k source [] h i = refl
  holds_good f k source (p ∷ ps) h i =
      let a = i.0 in
      let s = a.sourced in
      both_false (both_false (le-ltb (wants f k) p a.wanted) (both_false (not_past_lem f k p a.fired) (le-ltb cells p (omega arith))))
      (both_false (fifo ps a.fits i.1) (holds_good f (suc k) p ps (omega arith) i.1))
    where
      fifo : (qs : List ℕ) → Fits L k p qs → Holds L f (suc k) p qs → bad_fifo L k p qs ≡ false
      fifo [] g j = refl
      fifo (q ∷ qs) g j = both_false (le-ltb p q j.0.sourced) (le-ltb (q + capacity k) p g)

  pub invariant_good : (s : Counters) → Invariant L s → bad_state L s ≡ false
  unfolding bad_state
  invariant_good s i = both_false (le-ltb iterations s.fired i.most) (holds_good s.fired 0 cells s.passed (omega arith) i.all)

  good_holds : (f k source : ℕ) (ps : List ℕ) → k + length ps ≡ filters → bad_filters L f k ps ≡ false
      → ((p : ℕ) (qs : List ℕ) → ps ≡ p ∷ qs → p ≤ source) → Holds L f k source ps
  unfolding bad_filters bad_counter bad_fifo
  good_holds f k source [] n e h = omega arith
  good_holds f k source (p ∷ ps) n e h =
      let a = neither (bad_counter L f k p) (bad_fifo L k p ps || bad_filters L f (suc k) ps) e in
      let b = neither (ltb (wants f k) p) (not_past L f k p || ltb cells p) a.0 in
      let c = neither (not_past L f k p) (ltb cells p) b.1 in
      let d = neither (bad_fifo L k p ps) (bad_filters L f (suc k) ps) a.1 in (
        record { filter = omega arith; fired = past_it f k p c.0; wanted = ltb-false (wants f k) p b.0; sourced = h p ps refl; fits = fits ps d.0 },
        good_holds f (suc k) p ps (omega arith) d.1 (λ q qs g. below ps d.0 q qs g),
      )
    where
      fits : (qs : List ℕ) → bad_fifo L k p qs ≡ false → Fits L k p qs
      fits [] e = tt
      fits (q ∷ qs) e = ltb-false (q + capacity k) p (neither (ltb p q) (ltb (q + capacity k) p) e).1

      below : (rs : List ℕ) → bad_fifo L k p rs ≡ false → (q : ℕ) (qs : List ℕ) → rs ≡ q ∷ qs → q ≤ p
      below [] e q qs g = absurd (let z : 0 ≡ suc (length qs) = cc in let y : ⊥ = omega arith in y)
      below (r ∷ rs) e q qs g = let z : r ≡ q = cc in omega (arith, ltb-false p r (neither (ltb p r) (ltb (r + capacity k) p) e).0)

  -- What is not turned back is not above the cell count.
  within : (f k p : ℕ) (ps : List ℕ) → bad_filters L f k (p ∷ ps) ≡ false → p ≤ cells
  unfolding bad_filters bad_counter
  within f k p ps e =
      let a = neither (bad_counter L f k p) (bad_fifo L k p ps || bad_filters L f (suc k) ps) e in
      let b = neither (ltb (wants f k) p) (not_past L f k p || ltb cells p) a.0 in
      ltb-false cells p (neither (not_past L f k p) (ltb cells p) b.1).1

  pub good_invariant : (s : Counters) → length s.passed ≡ filters → bad_state L s ≡ false → Invariant L s
  unfolding bad_state
  good_invariant s n e =
      let a = neither (ltb iterations s.fired) (bad_filters L s.fired 0 s.passed) e in
      record {
        most = ltb-false iterations s.fired a.0;
        all = good_holds s.fired 0 cells s.passed (omega arith) a.1 (λ p qs g. within s.fired 0 p qs (rw (← g) a.1));
      }
