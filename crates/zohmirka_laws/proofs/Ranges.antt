-- Chains in the range of the machine's types: one that words of 32 bits give, and one that is planned from a request sheet.
use Prim.Native.Nat.{ℕ, zero, suc, ◌+◌, ◌*◌, ◌/◌, ◌%◌, ◌≤◌, ◌<◌}
use mathlib.Core.Bool.{false}
use mathlib.Core.List.{List, [], ◌∷◌}
use mathlib.Core.Path.{◌≡◌, refl, sym, ◌∙◌, ap, subst}
use native.Mathlib.Nat.{mul-le-mul_left, mul-le-mul_right, mul-one, one-mul}
use native.Mathlib.Omega.{arith}
use lib.Dec.{eqb, ltb}
use lib.Ieee.{binary32}
use lib.Ieee.Bits.{of_bits-fits}
use lib.IntN.{ℤ, pos}
use lib.ListN.{length, get_or, get_or-eq_default}
use lib.Signed.{mag}
use borrow.Author.Tests.{le-ltb, eqb-false, ltb-false}
use Rattle.model.specs.Lists.{tabulate, sum, product, any}
use Rattle.model_sheet.specs.Numbers.{signed, signed_word}
use Rattle.model.specs.Geometry.{cell_count}
use Rattle.model.specs.Grounds.{Ground}
use Rattle.model.specs.Grounds.Ground.{rectangle, skewed}
use Rattle.model.specs.Values.{Trimmed, dims_of, offset_of, offsets_of, part_of, index_array, bounds_of, grid_of, chain_of, blank_chain, request_of}
use Rattle.model.specs.Judging.{most_cells, most_places, bad_dims, bad_sizes, bad_grid, bad_ground, too_large, judged}
use Rattle.model.specs.Steps.{falling, sorted}
use Rattle.model.specs.Planning.{trimmed_request, judge_request, planned_chain}
use Rattle.model.specs.declared.Bounds.{Bounds}
use Rattle.model.specs.declared.Chain.{Chain}
use Rattle.std.specs.Prelude.{Ok}
use Rattle.grid_laws.proofs.CheckLaws.{value_passes}
use Rattle.grid_laws.proofs.SortLaws.{falling_no_other}
use Rattle.limits.proofs.SizeLaws.{product_above}
use Rattle.sheet_laws.proofs.Cases.{by_bool, by_lt, or-false}
use Rattle.sheet_trips.specs.RoundTrips.{FactorsFit, InRange}
use Rattle.sheet_trips.proofs.Bytes.{blank_at}
use Rattle.zohmirka_words.specs.Words.{word_at, kernel_in, indices_in, bounds_in, chain_in}
use Rattle.zohmirka_words.proofs.WordLaws.{few_chain}
use Rattle.zohmirka_laws.proofs.ReadChains.{each_tabulate, Index, Indices, HeldBounds, Held, signed_small, signed_word_small}

abbrev Word : ℕ → Type 0
Word w = w < 4294967296

abbrev Entry : ℤ → Type 0
Entry z = mag z < 32768

-- ---- Words

blank_range : InRange blank_chain
unfolding FactorsFit
blank_range = record {
  sizes = λ d. rw (blank_at {A = ℕ} 4 d 0) (omega arith);
  entries = λ i. rw (blank_at {A = ℤ} 128 i (pos 0)) (omega arith);
  lowest = λ d. rw (blank_at {A = ℤ} 4 d (pos 0)) (omega arith);
  highest = λ d. rw (blank_at {A = ℤ} 4 d (pos 0)) (omega arith);
  capacities = λ k. rw (blank_at {A = ℕ} 31 k 0) (omega arith);
  factors = tt;
}

kernel_fits : (which a b : ℕ) → FactorsFit (kernel_in which a b)
unfolding kernel_in FactorsFit
kernel_fits which a b =
    by_bool (eqb which 0) (λ e. rw e tt)
    (λ e.
    by_bool (eqb which 1) (λ d. rw (e, d) tt)
    (λ d.
    by_bool (eqb which 2) (λ f. rw (e, d, f) (of_bits-fits binary32 _))
    (λ f.
    by_bool (eqb which 3) (λ g. rw (e, d, f, g) (of_bits-fits binary32 _, of_bits-fits binary32 _)) (λ g. rw (e, d, f, g) (of_bits-fits binary32 _)))))

four : (a b c d : ℕ) → Word a → Word b → Word c → Word d → (i : ℕ) → Word (get_or (a ∷ b ∷ c ∷ d ∷ []) i 0)
four a b c d p q r s zero = p
four a b c d p q r s (suc zero) = q
four a b c d p q r s (suc (suc zero)) = r
four a b c d p q r s (suc (suc (suc zero))) = s
four a b c d p q r s (suc (suc (suc (suc i)))) = omega arith

indices_small : (ws : List ℕ) (from : ℕ) → Indices (indices_in ws from)
unfolding indices_in
indices_small ws from = each_tabulate Index 4 (λ d. signed_word (word_at ws (from + d))) (pos 0) (λ d. signed_word_small _) (omega arith)

pub words_range : (ws : List ℕ) → ((i : ℕ) → Word (word_at ws i)) → InRange (chain_in ws)
unfolding chain_in bounds_in
words_range ws small =
    by_lt (length ws) 212
    (λ h. subst InRange (few_chain ws h) blank_range)
    (λ h. rw (le-ltb _ _ h)
    (record {
      sizes = four _ _ _ _ (small 1) (small 2) (small 3) (small 4);
      entries = each_tabulate Entry 128 (λ i. signed (word_at ws (6 + i) % 65536)) (pos 0) (λ i. signed_small _) (omega arith);
      lowest = indices_small ws 202;
      highest = indices_small ws 206;
      capacities = each_tabulate Word 31 (λ k. word_at ws (134 + k)) 0 (λ k. small (134 + k)) (omega arith);
      factors = kernel_fits _ _ _;
    }))

-- ---- Plans

below_sum : (xs : List ℕ) (k : ℕ) → get_or xs k 0 ≤ sum xs
unfolding sum
below_sum [] k = omega arith
below_sum (x ∷ xs) zero = omega arith
below_sum (x ∷ xs) (suc k) = omega (arith, below_sum xs k)

below_product : (ss : List ℕ) → any (λ s. eqb s 0) ss ≡ false → (d : ℕ) → get_or ss d 0 ≤ product ss
unfolding any product
below_product [] e d = omega arith
below_product (s ∷ ss) e zero =
    let h = or-false (eqb s 0) (any (λ x. eqb x 0) ss) e in
    omega (arith, mul-le-mul_left s (product_above ss h.1), mul-one s)
below_product (s ∷ ss) e (suc d) =
    let h = or-false (eqb s 0) (any (λ x. eqb x 0) ss) e in
    let l : 1 ≤ s = omega (arith, eqb-false s 0 h.0) in
    omega (arith, below_product ss h.1 d, mul-le-mul_right (product ss) l, one-mul (product ss))

module _ (t : Trimmed) (ok : judged t ≡ Ok tt) where
  size_small : (sizes : List ℕ) → t.the_ground ≡ rectangle sizes → (d : ℕ) → Word (get_or sizes d 0)
  unfolding judged bad_grid bad_sizes cell_count
  size_small sizes e d =
      let g = or-false (bad_dims t.dims) (bad_sizes sizes) (sym (ap (bad_ground t.dims) e) ∙ (value_passes t ok).window.grid) in
      let h = or-false (any (λ s. eqb s 0) sizes) (ltb most_cells (cell_count sizes)) g.1 in
      omega (arith, below_product sizes h.0 d, ltb-false most_cells (product sizes) h.1)

  sizes_small : (g : Ground) → t.the_ground ≡ g → (d : ℕ) → Word (get_or (grid_of t.dims g).sizes d 0)
  unfolding grid_of
  sizes_small (rectangle sizes) e = each_tabulate Word 4 (λ d. get_or sizes d 0) 0 (size_small sizes e) (omega arith)
  sizes_small (skewed rs) e = each_tabulate Word 4 (λ d. get_or [] d 0) 0 (λ d. omega arith) (omega arith)

  capacity_small : (k : ℕ) → Word (get_or t.capacities k 0)
  unfolding judged too_large
  capacity_small k = omega (arith, below_sum t.capacities k, ltb-false most_places (sum t.capacities) (value_passes t ok).chain.places)

abbrev Small : List ℤ → Type 0
Small v = (j : ℕ) → Entry (get_or v j (pos 0))

-- Sorted offsets are those that were sorted.
sorted_small : (os : List (List ℤ)) → ((i : ℕ) → Small (get_or os i [])) → (i : ℕ) → Small (get_or (falling os) i [])
sorted_small os h i =
    by_lt i (length (falling os))
    (λ l. let (k, b, e) = falling_no_other os i l in rw (← e) (h k))
    (λ l. rw (get_or-eq_default (falling os) [] l) (λ j. omega arith))

-- Bounds that planning copies hold what was copied.
copied_small : (dims : ℕ) (l : List ℤ) → Indices l → Indices (index_array (tabulate dims (λ d. get_or l d (pos 0))))
copied_small dims l h =
    each_tabulate Index 4 (λ d. get_or (tabulate dims (λ k. get_or l k (pos 0))) d (pos 0)) (pos 0) (each_tabulate Index dims (λ d. get_or l d (pos 0)) (pos 0) h (omega arith)) (omega arith)

module _ (dims : ℕ) (b : Bounds) (held : HeldBounds b) where
  copied_bounds : Indices (bounds_of (part_of dims b)).lowest × Indices (bounds_of (part_of dims b)).highest
  unfolding part_of bounds_of
  copied_bounds =
      by_bool b.stood
      (λ e. rw e (copied_small dims b.lowest held.0.1, copied_small dims b.highest held.1.1))
      (λ e. rw e (λ d. rw (blank_at {A = ℤ} 4 d (pos 0)) (omega arith), λ d. rw (blank_at {A = ℤ} 4 d (pos 0)) (omega arith)))

module _ (c : Chain) (rows : List ℕ) (held : Held c) where
  request_small : (i : ℕ) → Small (get_or (trimmed_request (request_of c) rows).offsets i [])
  unfolding trimmed_request offsets_of offset_of
  request_small =
      each_tabulate Small c.window.count (offset_of (dims_of c.grid) c.window) []
      (λ k. each_tabulate Entry (dims_of c.grid) (λ d. get_or c.window.offsets (4 * k + d) (pos 0)) (pos 0) (λ d. held.window.1 (4 * k + d)) (omega arith))
      (λ j. omega arith)

  request_bounds : Indices (bounds_of (trimmed_request (request_of c) rows).part).lowest × Indices (bounds_of (trimmed_request (request_of c) rows).part).highest
  unfolding trimmed_request
  request_bounds = copied_bounds (dims_of c.grid) c.bounds held.bounds

  request_fits : FactorsFit (trimmed_request (request_of c) rows).kernel
  unfolding trimmed_request
  request_fits = held.factors

pub planned_range : (c : Chain) (rows : List ℕ) → Held c → judge_request (request_of c) rows ≡ Ok tt → InRange (planned_chain (request_of c) rows)
unfolding planned_chain chain_of judge_request sorted
planned_range c rows held ok =
    record {
      sizes = sizes_small t ok t.the_ground refl;
      entries = each_tabulate Entry 128 (λ i. get_or (get_or (falling t.offsets) (i / 4) []) (i % 4) (pos 0)) (pos 0) (λ i. sorted_small t.offsets (request_small c rows held) (i / 4) (i % 4)) (omega arith);
      lowest = (request_bounds c rows held).0;
      highest = (request_bounds c rows held).1;
      capacities = each_tabulate Word 31 (λ k. get_or t.capacities k 0) 0 (capacity_small t ok) (omega arith);
      factors = request_fits c rows held;
    }
  where
    t : Trimmed
    t = trimmed_request (request_of c) rows
