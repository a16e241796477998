-- Laws of a window's lows and of heights above them, reference by reference.
use Prim.Native.Nat.{ℕ, ◌+◌, ◌<◌, ◌≤◌, min, max}
use mathlib.Core.Bool.{Bool, true, false, cond, ◌&&◌, and-false}
use mathlib.Core.List.{List, map}
use mathlib.Core.Path.{◌≡◌, refl, sym, ◌∙◌}
use native.Mathlib.Decide.{dec_lt}
use native.Mathlib.Omega.{arith}
use lib.Dec.{ltb}
use lib.IntN.{ℤ, pos}
use lib.ListN.{get_or, replicate, get_or-eq_default}
use Rattle.std.specs.Int.{int_min}
use borrow.Author.Tests.{lt-ltb, le-ltb, le-leb, lt-leb}
use Rattle.model.specs.Lists.{tabulate, greatest}
use Rattle.model.specs.Vectors.{above}
use Rattle.model.specs.Geometry.{least_from, least}
use Rattle.grid_laws.proofs.ListLaws.{length_tabulate, get_d_tabulate, tabulate_same}
use Rattle.geometry.specs.Parts.{part, entry_at, entries_in, Filled, Lows}
use Rattle.geometry.proofs.PartLaws.{part_none, part_more, part_all}
use Rattle.geometry.proofs.FillLaws.{filled_none, filled_all}
use Rattle.windows.specs.Lows.{held_in, low_in, lows_in, span_in, heights_in}

-- How far the greatest of some entries lies above low.
abbrev pub span_above : ℤ → List ℤ → ℕ
span_above low es = greatest (map (λ e. above e low) es)

module _ (e : ℕ → ℤ) where
  pub least_start : (n : ℕ) → 0 < n → least_from (e 0) (part e 1 n) ≡ least (tabulate n e)
  unfolding least
  least_start n h = rw (← part_all e n, part_more e 0 n h)

  pub least_on : (low x next : ℤ) (k n : ℕ) → k < n → x ≡ e k → next ≡ int_min low x → {whole : ℤ} → least_from low (part e k n) ≡ whole → least_from next (part e (k + 1) n) ≡ whole
  unfolding least_from
  least_on low x next k n h is least all = rw (least, is) (rw (part_more e k n h) at all)

  pub least_end : (low : ℤ) (k n : ℕ) → n ≤ k → low ≡ least_from low (part e k n)
  unfolding least_from
  least_end low k n h = rw (part_none e k n h)

  pub span_start : (low : ℤ) (n : ℕ) → max 0 (span_above low (part e 0 n)) ≡ span_above low (tabulate n e)
  span_start low n = rw (part_all e n) (omega arith)

  pub span_on : (low : ℤ) (span k n : ℕ) → k < n → max (max span (above (e k) low)) (span_above low (part e (k + 1) n)) ≡ max span (span_above low (part e k n))
  unfolding greatest
  span_on low span k n h = rw (part_more e k n h) (omega arith)

  pub span_end : (low : ℤ) (span k n : ℕ) → n ≤ k → span ≡ max span (span_above low (part e k n))
  unfolding greatest
  span_end low span k n h = rw (part_none e k n h) (omega arith)

-- What is answered where the array holds the references and their entries of dimension d, and where it does not.
module _ (count : ℕ) (offsets : List ℤ) (d : ℕ) where
  in_array : count ≤ 32 → d < 4 → held_in count d ≡ true
  unfolding held_in
  in_array h k = rw (le-leb count 32 h, lt-ltb d 4 k)

  too_many : 32 < count → held_in count d ≡ false
  unfolding held_in
  too_many h = rw (lt-leb count 32 h)

  past_last : 4 ≤ d → held_in count d ≡ false
  unfolding held_in
  past_last h = rw (le-ltb d 4 h, and-false)

  pub low_there : count ≤ 32 → d < 4 → low_in count offsets d ≡ least (entries_in count offsets d)
  unfolding low_in
  low_there h k = rw (in_array h k)

  pub low_many : 32 < count → pos 0 ≡ low_in count offsets d
  unfolding low_in
  low_many h = rw (too_many h)

  pub low_past : 4 ≤ d → pos 0 ≡ low_in count offsets d
  unfolding low_in
  low_past h = rw (past_last h)

  pub low_none : count ≡ 0 → pos 0 ≡ low_in count offsets d
  unfolding low_in least tabulate
  low_none e = rw e (go (held_in 0 d))
    where
      go : (t : Bool) → pos 0 ≡ cond t (pos 0) (pos 0)
      go true = refl
      go false = refl

  module _ (low : ℤ) where
    pub span_there : count ≤ 32 → d < 4 → span_in count offsets d low ≡ span_above low (entries_in count offsets d)
    unfolding span_in
    span_there h k = rw (in_array h k)

    pub span_many : 32 < count → 0 ≡ span_in count offsets d low
    unfolding span_in
    span_many h = rw (too_many h)

    pub span_past : 4 ≤ d → 0 ≡ span_in count offsets d low
    unfolding span_in
    span_past h = rw (past_last h)

    -- The height of reference k.
    abbrev height_at : ℕ → ℕ
    height_at k = cond (held_in count d && ltb k count) (above (entry_at offsets k d) low) 0

    none_there : held_in count d ≡ false → replicate 32 0 ≡ heights_in count offsets d low
    unfolding heights_in
    none_there e =
        filled_all 32 0 height_at height_at 0 (replicate 32 0) (λ k h. refl) (λ k h. rw e) (filled_none 32 0 height_at)

    pub heights_many : 32 < count → replicate 32 0 ≡ heights_in count offsets d low
    heights_many h = none_there (too_many h)

    pub heights_past : 4 ≤ d → replicate 32 0 ≡ heights_in count offsets d low
    heights_past h = none_there (past_last h)

    pub heights_all : (xs : List ℕ) → count ≤ 32 → d < 4 → Filled 32 0 (λ k. above (entry_at offsets k d) low) count xs → xs ≡ heights_in count offsets d low
    unfolding heights_in
    heights_all xs h k f =
        filled_all 32 0 (λ k. above (entry_at offsets k d) low) height_at count xs
        (λ i b. rw (in_array h k, lt-ltb i count b)) (λ i b. rw (in_array h k, le-ltb i count b)) f

    -- The heights of the references that are there.
    pub heights_there : (g : ℕ → ℕ) → count ≤ 32 → d < 4 → ((k : ℕ) → k < count → above (entry_at offsets k d) low ≡ g k) → ((k : ℕ) → count ≤ k → g k ≡ 0)
        → heights_in count offsets d low ≡ tabulate 32 g
    unfolding heights_in
    heights_there g h b there past = tabulate_same 32 height_at g (λ k l. at k (dec_lt k count))
      where
        at : (k : ℕ) → Dec (k < count) → height_at k ≡ g k
        at k (yes m) = rw (in_array h b, lt-ltb k count m) (there k m)
        at k (no m) = rw (in_array h b, le-ltb k count (omega arith)) (sym (past k (omega arith)))

-- The lows of the first dimensions.
module _ (dims count : ℕ) (offsets : List ℤ) where
  abbrev low_at : ℕ → ℤ
  low_at d = cond (ltb d dims) (low_in count offsets d) (pos 0)

  pub lows_all : (n : ℕ) (xs : List ℤ) → n ≡ min dims 4 → Filled 4 (pos 0) (low_in count offsets) n xs → xs ≡ lows_in dims count offsets
  unfolding lows_in
  lows_all n xs e f =
      filled_all 4 (pos 0) (low_in count offsets) low_at n xs (λ d b. rw (lt-ltb d dims (omega arith))) (λ d b. past d (dec_lt d dims) (omega arith)) f
    where
      past : (d : ℕ) → Dec (d < dims) → min dims 4 ≤ d → low_at d ≡ pos 0
      past d (yes h) m = rw (lt-ltb d dims h) (sym (low_past count offsets d (omega arith)))
      past d (no h) m = rw (le-ltb d dims (omega arith))

  pub lows_there : (xs : List ℤ) → xs ≡ lows_in dims count offsets → dims ≤ 4 → count ≤ 32 → Lows dims count offsets xs
  unfolding lows_in
  lows_there xs e h k = rw e (record {
    long = length_tabulate 4 low_at;
    done = λ d b. get_d_tabulate 4 low_at d (pos 0) (omega arith) ∙ (rw (lt-ltb d dims b) (low_there count offsets d k (omega arith)));
    left = λ d b. past d b (dec_lt d 4);
  })
    where
      past : (d : ℕ) → dims ≤ d → Dec (d < 4) → get_or (tabulate 4 low_at) d (pos 0) ≡ pos 0
      past d b (yes l) = get_d_tabulate 4 low_at d (pos 0) l ∙ (rw (le-ltb d dims b))
      past d b (no l) = get_or-eq_default (tabulate 4 low_at) (pos 0) (rw (length_tabulate 4 low_at) (omega arith))
