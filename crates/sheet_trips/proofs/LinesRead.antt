-- What was read from a line is written as that line.
use Prim.Native.Nat.{ℕ, ◌+◌, ◌≤◌, ◌<◌}
use mathlib.Core.Bool.{true, false}
use mathlib.Core.List.{List, [], ◌∷◌, ◌++◌}
use mathlib.Core.Path.{◌≡◌, sym, ap, ap₂, ◌∙◌}
use native.Mathlib.Omega.{arith}
use lib.Ieee.{of_bits, to_bits, binary32}
use lib.ListN.{length, take, get_or}
use lib.Seq.{take-take}
use borrow.Author.Tests.{eq-eqb, ne_eqb, lt-leb, eqb-true, not-false}
use Rattle.model.specs.Values.{order_of}
use Rattle.model.specs.Judging.{not_finite, bad_factor}
use Rattle.model_sheet.specs.Frames.{kept, padded}
use Rattle.model_sheet.specs.Numbers.{byte_at, half_at, word_at, half_bytes, word_bytes, signed, pattern, signed_word, word_pattern}
use Rattle.model_sheet.specs.Reading.{bad_kernel, sizes_in, lowest_in, highest_in, filters_in, kernel_in}
use Rattle.model_sheet.specs.Writing.{index_pair, capacity_line, kernel_line}
use Rattle.grid_laws.proofs.ListLaws.{get_d_tabulate, tabulate_back}
use Rattle.sheet_laws.specs.Sections.{grid_row, box_row}
use Rattle.sheet_laws.proofs.Cases.{by_eq, never, or-false}
use Rattle.sheet_trips.proofs.Bytes.{Small, small_at, small_padded, length_padded, take_padded, filters_read, half_back, word_back, half_small, word_small, upto, by_entries}
use Rattle.sheet_trips.proofs.Values.{pattern_signed, word_pattern_signed, bits_back}

firsts : (n : ℕ) (bs : List ℕ) → n ≤ kept → take n (padded bs) ≡ upto (padded bs) 0 n
firsts n bs h = by_entries n 0 (padded bs) (omega (arith, length_padded bs))

-- A line is the front of its row.
pub front : (n w : ℕ) (bs row : List ℕ) → row ≡ take w (padded bs) → n ≤ w → w ≤ kept → length bs ≡ n → take n row ≡ bs
front n w bs row e h l q = ap (take n) e ∙ take-take n w (padded bs) h ∙ take_padded n bs (sym q) (omega arith)

-- An order's line, of which the first byte is 6.
order_bytes : (n : ℕ) (xs : List ℕ) (b : ℕ) → length xs ≡ n → n ≤ 32 → order_of n (record { stood = true; filters = filters_in n (padded (b ∷ xs)) }) ≡ xs
unfolding order_of
order_bytes n xs b l h =
    tabulate_back 0 xs n (λ t. get_or (filters_in n (padded (b ∷ xs))) t 0) l
    (λ t q. ap (λ (fs : List ℕ). get_or fs t 0) (filters_read n b xs l) ∙ get_d_tabulate 32 (λ i. get_or xs i 0) t 0 (omega arith))

pub order_row_lem : (n : ℕ) (bs : List ℕ) → byte_at (padded bs) 0 ≡ 6 → length bs ≡ 1 + n → n ≤ 32 → 6 ∷ order_of n (record { stood = true; filters = filters_in n (padded bs) }) ≡ bs
unfolding padded
order_row_lem n [] e l h = absurd (omega arith)
order_row_lem n (b ∷ xs) e l h = ap₂ ◌∷◌ (sym e) (order_bytes n xs b (omega arith) h)

module _ (bs : List ℕ) (small : Small bs) where
  abbrev x : List ℕ
  x = padded bs

  s : Small x
  s = small_padded small

  pub grid_row_lem : byte_at x 0 ≡ 1 → grid_row (record { skewed = false; rows = 0; dims = byte_at x 1; sizes = sizes_in x }) ≡ take 18 x
  unfolding grid_row sizes_in upto
  grid_row_lem e =
      rw (word_back x 2 s, word_back x 6 s, word_back x 10 s, word_back x 14 s) (ap (λ b. b ∷ upto x 1 17) (sym e) ∙ sym (firsts 18 bs (omega arith)))

  entry_bytes : (i : ℕ) → half_bytes (pattern (signed (half_at x i))) ≡ byte_at x i ∷ byte_at x (i + 1) ∷ []
  entry_bytes i = ap half_bytes (pattern_signed _ (half_small x i s)) ∙ half_back x i (small_at s (i + 1))

  pub offset_row_lem : byte_at x 0 ≡ 2
      → 2
      ∷ (half_bytes (pattern (signed (half_at x 1)))
      ++ (half_bytes (pattern (signed (half_at x 3))) ++ (half_bytes (pattern (signed (half_at x 5))) ++ half_bytes (pattern (signed (half_at x 7))))))
      ≡ take 9 x
  unfolding upto
  offset_row_lem e = rw (entry_bytes 1, entry_bytes 3, entry_bytes 5, entry_bytes 7) (ap (λ b. b ∷ upto x 1 8) (sym e) ∙ sym (firsts 9 bs (omega arith)))

  index_bytes : (i : ℕ) → word_bytes (word_pattern (signed_word (word_at x i))) ≡ byte_at x i ∷ byte_at x (i + 1) ∷ byte_at x (i + 2) ∷ byte_at x (i + 3) ∷ []
  index_bytes i = ap word_bytes (word_pattern_signed _ (word_small x i s)) ∙ word_back x i s

  pub box_row_lem : byte_at x 0 ≡ 8 → box_row (record { stood = true; lowest = lowest_in x; highest = highest_in x }) ≡ take 33 x
  unfolding box_row index_pair lowest_in highest_in upto
  box_row_lem e =
      rw (index_bytes 1, index_bytes 5, index_bytes 9, index_bytes 13, index_bytes 17, index_bytes 21, index_bytes 25, index_bytes 29)
      (ap (λ b. b ∷ upto x 1 32) (sym e) ∙ sym (firsts 33 bs (omega arith)))

  pub capacity_row : byte_at x 0 ≡ 3 → capacity_line (word_at x 1) ≡ take 5 x
  unfolding capacity_line upto
  capacity_row e = rw (word_back x 1 s) (ap (λ b. b ∷ upto x 1 4) (sym e) ∙ sym (firsts 5 bs (omega arith)))

  -- The kernel's line, of each length.
  kernel_2 : (which : ℕ) → length bs ≡ 2 → byte_at x 0 ≡ 4 → byte_at x 1 ≡ which → 4 ∷ which ∷ [] ≡ bs
  unfolding upto
  kernel_2 which l e f = rw (← e, ← f) (sym (firsts 2 bs (omega arith)) ∙ take_padded 2 bs (sym l) (omega arith))

  factor_bytes : (i : ℕ) → not_finite (of_bits binary32 (word_at x i)) ≡ false
      → word_bytes (to_bits binary32 (of_bits binary32 (word_at x i))) ≡ byte_at x i ∷ byte_at x (i + 1) ∷ byte_at x (i + 2) ∷ byte_at x (i + 3) ∷ []
  factor_bytes i h = ap word_bytes (bits_back _ (word_small x i s) h) ∙ word_back x i s

  kernel_6 : length bs ≡ 6 → byte_at x 0 ≡ 4 → byte_at x 1 ≡ 2 → not_finite (of_bits binary32 (word_at x 2)) ≡ false
      → 4 ∷ 2 ∷ word_bytes (to_bits binary32 (of_bits binary32 (word_at x 2))) ≡ bs
  unfolding upto
  kernel_6 l e f h =
      rw (factor_bytes 2 h)
      (ap (λ b. b ∷ 2 ∷ upto x 2 4) (sym e) ∙ ap (λ b. byte_at x 0 ∷ b ∷ upto x 2 4) (sym f) ∙ sym (firsts 6 bs (omega arith)) ∙ take_padded 6 bs (sym l) (omega arith))

  kernel_10 : length bs ≡ 10 → byte_at x 0 ≡ 4 → byte_at x 1 ≡ 3
      → not_finite (of_bits binary32 (word_at x 2)) ≡ false → not_finite (of_bits binary32 (word_at x 6)) ≡ false
      → 4 ∷ 3 ∷ (word_bytes (to_bits binary32 (of_bits binary32 (word_at x 2))) ++ word_bytes (to_bits binary32 (of_bits binary32 (word_at x 6)))) ≡ bs
  unfolding upto
  kernel_10 l e f h k =
      rw (factor_bytes 2 h, factor_bytes 6 k)
      (ap (λ b. b ∷ 3 ∷ upto x 2 8) (sym e) ∙ ap (λ b. byte_at x 0 ∷ b ∷ upto x 2 8) (sym f) ∙ sym (firsts 10 bs (omega arith)) ∙ take_padded 10 bs (sym l) (omega arith))

  pub kernel_row : byte_at x 0 ≡ 4 → bad_kernel (length bs) (byte_at x 1) ≡ false → bad_factor (kernel_in x) ≡ false → kernel_line (kernel_in x) ≡ bs
  unfolding bad_kernel kernel_in kernel_line bad_factor
  kernel_row e h g =
      by_eq (byte_at x 1) 0
      (λ f. let l : length bs ≡ 2 = eqb-true _ _ (not-false _ (rw f at h)) in rw (eq-eqb _ _ f) (kernel_2 0 l e f))
      (λ n0. by_eq (byte_at x 1) 1
      (λ f. let l : length bs ≡ 2 = eqb-true _ _ (not-false _ (rw f at h)) in rw (ne_eqb _ _ n0, eq-eqb _ _ f) (kernel_2 1 l e f))
      (λ n1. by_eq (byte_at x 1) 2
      (λ f. let l : length bs ≡ 6 = eqb-true _ _ (not-false _ (rw f at h)) in
      rw (ne_eqb _ _ n0, ne_eqb _ _ n1, eq-eqb _ _ f) (kernel_6 l e f (rw (ne_eqb _ _ n0, ne_eqb _ _ n1, eq-eqb _ _ f) at g)))
      (λ n2. by_eq (byte_at x 1) 3
      (λ f. let l : length bs ≡ 10 = eqb-true _ _ (not-false _ (rw f at h)) in
      let b = or-false _ _ (rw (ne_eqb _ _ n0, ne_eqb _ _ n1, ne_eqb _ _ n2) at g) in
      rw (ne_eqb _ _ n0, ne_eqb _ _ n1, ne_eqb _ _ n2) (kernel_10 l e f b.0 b.1))
      (λ n3. let l : 1 < byte_at x 1 = omega (arith, n0, n1) in absurd (never (simp (lt-leb _ _ l, ne_eqb _ _ n2, ne_eqb _ _ n3) at h))))))
