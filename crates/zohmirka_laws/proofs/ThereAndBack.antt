-- A chain's words give back the chain.
use Prim.Native.Nat.{ℕ, ◌+◌, ◌-◌, ◌%◌, ◌≤◌, ◌<◌}
use mathlib.Core.Bool.{Bool, true, false, cond, not}
use mathlib.Core.List.{List, [], ◌∷◌}
use mathlib.Core.Path.{◌≡◌, refl, sym, ◌∙◌, ap}
use native.Mathlib.Omega.{arith}
use lib.Dec.{eqb}
use lib.Ieee.{binary32}
use lib.Ieee.Bits.{of_bits-to_bits}
use lib.IntN.{ℤ, pos}
use lib.ListN.{length, get_or}
use borrow.Author.Tests.{lt-ltb, le-ltb}
use Rattle.model.specs.Lists.{tabulate}
use Rattle.model_sheet.specs.Numbers.{signed, pattern, signed_word, word_pattern}
use Rattle.model.specs.declared.Chain.{Chain}
use Rattle.model.specs.declared.Kernel.{Kernel}
use Rattle.model.specs.declared.Kernel.TheVariants as kernel
use Rattle.grid_laws.proofs.ListLaws.{tabulate_back}
use Rattle.sheet_laws.proofs.Cases.{by_lt}
use Rattle.sheet_trips.specs.RoundTrips.{FactorsFit}
use Rattle.sheet_trips.proofs.Values.{signed_pattern, pattern_small, signed_word_pattern}
use Rattle.zohmirka_words.specs.Words.{word_at, laid, kernel_words, chain_word, chain_words, count_in, kernel_in, order_in, indices_in, bounds_in, chain_in}
use Rattle.zohmirka_words.proofs.WordLaws.{at_stood, at_filter, at_box_stood, at_lowest, at_highest, at_skewed, at_rows, order_of_words, bounds_of_words, chain_of_words}
use Rattle.zohmirka_laws.proofs.Laid.{laid_long, laid_at}
use Rattle.zohmirka_laws.proofs.ReadChains.{HeldIndices, Held}

kernel_back : (k : Kernel) → FactorsFit k → kernel_in (get_or (kernel_words k) 0 0) (get_or (kernel_words k) 1 0) (get_or (kernel_words k) 2 0) ≡ k
unfolding kernel_in kernel_words FactorsFit
kernel_back kernel.Raw h = refl
kernel_back kernel.Difference h = refl
kernel_back (kernel.Scaled f) h = ap kernel.Scaled (of_bits-to_bits binary32 f h)
kernel_back (kernel.Blend g) (a, b) = rw (of_bits-to_bits binary32 g.a a, of_bits-to_bits binary32 g.b b)

count_back : (n : ℕ) → n < 256 → n ≡ count_in n
unfolding count_in
count_back n h = by_lt n 255 (λ l. rw (lt-ltb _ _ l)) (λ l. rw (le-ltb _ _ l) (omega arith))

-- Whether a line stood or a grid is skewed, and the indices of a box.
stood_back : (w : ℕ) (b : Bool) → w ≡ cond b 1 0 → b ≡ not (eqb w 0)
stood_back w true e = rw e
stood_back w false e = rw e

indices_back : (ws : List ℕ) (from : ℕ) (l : List ℤ) → HeldIndices l → ((d : ℕ) → d < 4 → word_at ws (from + d) ≡ word_pattern (get_or l d (pos 0))) → l ≡ indices_in ws from
unfolding indices_in
indices_back ws from l h at =
    sym
    (tabulate_back (pos 0) l 4 (λ d. signed_word (word_at ws (from + d))) h.0
    (λ d b. ap signed_word (at d b) ∙ signed_word_pattern (get_or l d (pos 0)) (h.1 d)))

module _ (c : Chain) where
  at_dims : chain_word c 0 ≡ c.grid.dims
  unfolding chain_word
  at_dims = refl

  at_count : chain_word c 5 ≡ c.window.count
  unfolding chain_word
  at_count = refl

  at_kernel : (chain_word c 165 ≡ get_or (kernel_words c.kernel) 0 0)
      × (chain_word c 166 ≡ get_or (kernel_words c.kernel) 1 0)
      × (chain_word c 167 ≡ get_or (kernel_words c.kernel) 2 0)
  unfolding chain_word
  at_kernel = (refl, refl, refl)

  at_size : (d : ℕ) → d < 4 → chain_word c (1 + d) ≡ get_or c.grid.sizes d 0
  unfolding chain_word
  at_size d h =
      let a : 1 ≤ 1 + d = omega arith in
      let b : 1 + d < 5 = omega arith in
      let e : 1 + d - 1 ≡ d = omega arith in
      rw (le-ltb _ _ a, lt-ltb _ _ b, e)

  at_entry : (i : ℕ) → i < 128 → chain_word c (6 + i) ≡ pattern (get_or c.window.offsets i (pos 0))
  unfolding chain_word
  at_entry i h =
      let a : 1 ≤ 6 + i = omega arith in
      let b : 5 ≤ 6 + i = omega arith in
      let d : 6 ≤ 6 + i = omega arith in
      let f : 6 + i < 134 = omega arith in
      let e : 6 + i - 6 ≡ i = omega arith in
      rw (le-ltb _ _ a, le-ltb _ _ b, le-ltb _ _ d, lt-ltb _ _ f, e)

  at_capacity : (k : ℕ) → k < 31 → chain_word c (134 + k) ≡ get_or c.capacities k 0
  unfolding chain_word
  at_capacity k h =
      let a : 1 ≤ 134 + k = omega arith in
      let b : 5 ≤ 134 + k = omega arith in
      let d : 6 ≤ 134 + k = omega arith in
      let f : 134 ≤ 134 + k = omega arith in
      let g : 134 + k < 165 = omega arith in
      let e : 134 + k - 134 ≡ k = omega arith in
      rw (le-ltb _ _ a, le-ltb _ _ b, le-ltb _ _ d, le-ltb _ _ f, lt-ltb _ _ g, e)

  module _ (old : List ℕ) where
    abbrev ws : List ℕ
    ws = laid (chain_words c) old

    long : 212 ≤ length ws
    unfolding chain_words
    long = laid_long 212 (chain_word c) old

    at : (i : ℕ) → i < 212 → word_at ws i ≡ chain_word c i
    unfolding chain_words
    at i h = laid_at 212 (chain_word c) old i h

    pub chain_back : Held c → c.window.count ≤ 32 → c ≡ chain_in ws
    unfolding tabulate
    chain_back h some =
        chain_of_words ws c.grid.skewed c.grid.rows c.grid.dims c.window.count c.grid.sizes c.capacities c.window.offsets c.bounds c.order c.kernel long skewed rows
        dims sizes count offsets capacities bounds orders kernels
      where
        skewed : c.grid.skewed ≡ not (eqb (word_at ws 210) 0)
        skewed = stood_back _ c.grid.skewed (at 210 (omega arith) ∙ at_skewed c)

        rows : c.grid.rows ≡ word_at ws 211
        rows = sym (at 211 (omega arith) ∙ at_rows c)

        dims : c.grid.dims ≡ count_in (word_at ws 0)
        dims = count_back c.grid.dims h.dims ∙ ap count_in (sym (at 0 (omega arith) ∙ at_dims))

        sizes : c.grid.sizes ≡ word_at ws 1 ∷ word_at ws 2 ∷ word_at ws 3 ∷ word_at ws 4 ∷ []
        sizes = sym (tabulate_back 0 c.grid.sizes 4 (λ d. word_at ws (1 + d)) h.sizes (λ d b. at (1 + d) (omega arith) ∙ at_size d b))

        count : c.window.count ≡ count_in (word_at ws 5)
        count = count_back c.window.count (omega arith) ∙ ap count_in (sym (at 5 (omega arith) ∙ at_count))

        offsets : c.window.offsets ≡ tabulate 128 (λ i. signed (word_at ws (6 + i) % 65536))
        offsets =
            sym
            (tabulate_back (pos 0) c.window.offsets 128 (λ i. signed (word_at ws (6 + i) % 65536)) h.window.0
            (λ i b.
            let e = get_or c.window.offsets i (pos 0) in
            rw (at (6 + i) (omega arith), at_entry i b, mod_small (pattern e) (pattern_small e (h.window.1 i))) (signed_pattern e (h.window.1 i))))
          where
            mod_small : (w : ℕ) → w < 65536 → w % 65536 ≡ w
            mod_small w b = omega arith

        capacities : c.capacities ≡ tabulate 31 (λ k. word_at ws (134 + k))
        capacities = sym (tabulate_back 0 c.capacities 31 (λ k. word_at ws (134 + k)) h.capacities (λ k b. at (134 + k) (omega arith) ∙ at_capacity k b))

        bounds : c.bounds ≡ bounds_in ws
        bounds = bounds_of_words ws c.bounds.stood c.bounds.lowest c.bounds.highest (stood_back _ c.bounds.stood (at 201 (omega arith) ∙ at_box_stood c)) lowest highest
          where
            lowest : c.bounds.lowest ≡ indices_in ws 202
            lowest = indices_back ws 202 c.bounds.lowest h.bounds.0 (λ d b. at (202 + d) (omega arith) ∙ at_lowest c d b)

            highest : c.bounds.highest ≡ indices_in ws 206
            highest = indices_back ws 206 c.bounds.highest h.bounds.1 (λ d b. at (206 + d) (omega arith) ∙ at_highest c d b)

        orders : c.order ≡ order_in ws
        orders = order_of_words ws c.order.stood c.order.filters (stood_back _ c.order.stood (at 168 (omega arith) ∙ at_stood c)) filters
          where
            filters : c.order.filters ≡ tabulate 32 (λ t. count_in (word_at ws (169 + t)))
            filters =
                sym
                (tabulate_back 0 c.order.filters 32 (λ t. count_in (word_at ws (169 + t))) h.order.0
                (λ t b. ap count_in (at (169 + t) (omega arith) ∙ at_filter c t b) ∙ sym (count_back (get_or c.order.filters t 0) (h.order.1 t))))

        kernels : c.kernel ≡ kernel_in (word_at ws 165) (word_at ws 166) (word_at ws 167)
        kernels =
            rw (at 165 (omega arith) ∙ at_kernel.0, at 166 (omega arith) ∙ at_kernel.1, at 167 (omega arith) ∙ at_kernel.2) (sym (kernel_back c.kernel h.factors))
