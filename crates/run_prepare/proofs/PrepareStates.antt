-- Number 11, filter by filter, as the code looks at it.
use Prim.Native.Nat.{ℕ, zero, suc, ◌+◌, ◌≤◌, ◌<◌}
use mathlib.Core.Bool.{true, false, ◌||◌}
use mathlib.Core.List.{List, ◌∷◌}
use mathlib.Core.Path.{◌≡◌, refl, sym, ◌∙◌, ap}
use native.Mathlib.Numerals.{add-one}
use native.Mathlib.Omega.{arith}
use lib.Dec.{ltb}
use lib.ListN.{length, take, length-take, drop_of_length-le}
use lib.Seq.{slice, slice-cons}
use borrow.Author.Tests.{lt-ltb, le-ltb, le-leb, lt-leb}
use Rattle.model_run.specs.Clock.{Layout}
use Rattle.model_run.specs.Running.{not_past, bad_counter, bad_fifo, bad_filters, bad_state}
use Rattle.run_prepare.specs.Prepared.{number_at}

-- An input counter p of filter k, whose next wanted cell is w.
module _ (L : Layout) (k p w : ℕ) where
  pub counter_wanted : (fired : ℕ) → L.wants fired k ≡ w → w < p → true ≡ bad_counter L fired k p
  unfolding bad_counter
  counter_wanted fired e h = rw (e, lt-ltb w p h)

  -- Its last fired cell is l.
  pub counter_fired : (fired l : ℕ) → L.wants fired k ≡ w → ((f : ℕ) → fired ≡ suc f → L.wants f k ≡ l) → p ≤ w → 0 < fired → p ≤ l → true ≡ bad_counter L fired k p
  unfolding bad_counter not_past
  counter_fired zero l e d h g i = absurd (omega arith)
  counter_fired (suc f) l e d h g i = rw (e, le-ltb w p h, d f refl, le-leb p l i)

  pub counter_unfired : (fired : ℕ) → L.wants fired k ≡ w → p ≤ w → fired ≤ 0 → ltb L.cells p ≡ bad_counter L fired k p
  unfolding bad_counter not_past
  counter_unfired zero e h g = rw (e, le-ltb w p h)
  counter_unfired (suc f) e h g = absurd (omega arith)

  pub counter_past : (fired l : ℕ) → L.wants fired k ≡ w → ((f : ℕ) → fired ≡ suc f → L.wants f k ≡ l) → p ≤ w → 0 < fired → l < p → ltb L.cells p ≡ bad_counter L fired k p
  unfolding bad_counter not_past
  counter_past zero l e d h g i = absurd (omega arith)
  counter_past (suc f) l e d h g i = rw (e, le-ltb w p h, d f refl, lt-leb p l i)

-- The filters from k on, of n whose counters stand in an array.
module _ (L : Layout) (n k : ℕ) (ps : List ℕ) where
  pub last_filter : (p : ℕ) → n ≤ k + 1 → false ≡ bad_fifo L k p (slice (suc k) n ps)
  unfolding bad_fifo
  last_filter p h = rw (drop_of_length-le (take n ps) {i = suc k} (rw (length-take n ps) (omega arith)))

  module _ (h : k + 1 < n) (long : n ≤ length ps) where
    behind : slice (suc k) n ps ≡ number_at ps (k + 1) ∷ slice (suc (suc k)) n ps
    behind = slice-cons (suc k) n ps 0 (omega arith) long ∙ ap (λ (i : ℕ). number_at ps i ∷ slice (suc (suc k)) n ps) (sym (add-one k))

    pub below_next : (p : ℕ) → p < number_at ps (k + 1) → true ≡ bad_fifo L k p (slice (suc k) n ps)
    unfolding bad_fifo
    below_next p b = rw (behind, lt-ltb p (number_at ps (k + 1)) b)

    pub by_capacity : (p capacity : ℕ) → L.capacity k ≡ capacity → number_at ps (k + 1) ≤ p → ltb (number_at ps (k + 1) + capacity) p ≡ bad_fifo L k p (slice (suc k) n ps)
    unfolding bad_fifo
    by_capacity p capacity e b = rw (behind, le-ltb p (number_at ps (k + 1)) b, e)

  module _ (fired : ℕ) (h : k < n) (long : n ≤ length ps) where
    by_filter : bad_filters L fired k (slice k n ps)
        ≡ (bad_counter L fired k (number_at ps k) || (bad_fifo L k (number_at ps k) (slice (suc k) n ps) || bad_filters L fired (suc k) (slice (suc k) n ps)))
    unfolding bad_filters
    by_filter = rw (slice-cons k n ps 0 h long)

    pub counter_bad : true ≡ bad_counter L fired k (number_at ps k) → true ≡ bad_filters L fired k (slice k n ps)
    counter_bad e = rw (by_filter, ← e)

    module _ (e : false ≡ bad_counter L fired k (number_at ps k)) where
      pub fifo_bad : true ≡ bad_fifo L k (number_at ps k) (slice (suc k) n ps) → true ≡ bad_filters L fired k (slice k n ps)
      fifo_bad d = rw (by_filter, ← e, ← d)

      pub next_filter : false ≡ bad_fifo L k (number_at ps k) (slice (suc k) n ps) → bad_filters L fired k (slice k n ps) ≡ bad_filters L fired (k + 1) (slice (k + 1) n ps)
      next_filter d = by_filter ∙ rw (← e, ← d, add-one k)

  pub no_filter : (fired : ℕ) → n ≤ k → false ≡ bad_filters L fired k (slice k n ps)
  unfolding bad_filters
  no_filter fired h = rw (drop_of_length-le (take n ps) {i = k} (rw (length-take n ps) (omega arith)))

module _ (L : Layout) (fired : ℕ) (ps : List ℕ) where
  pub too_many : L.iterations < fired → true ≡ bad_state L (record { fired = fired; passed = ps })
  unfolding bad_state
  too_many h = rw (lt-ltb L.iterations fired h)

  pub by_filters : fired ≤ L.iterations → bad_state L (record { fired = fired; passed = ps }) ≡ bad_filters L fired 0 ps
  unfolding bad_state
  by_filters h = rw (le-ltb L.iterations fired h)
