-- An `09` line, there and back: the numbers of the rows that it was written of, and the bytes that it was read from.
use Prim.Native.Nat.{ℕ, zero, suc, ◌+◌, ◌*◌, ◌/◌, ◌%◌, ◌≤◌, ◌<◌}
use mathlib.Core.List.{List, [], ◌∷◌, ◌++◌, flat_map}
use mathlib.Core.Path.{◌≡◌, refl, sym, ap, ap₂, ◌∙◌}
use native.Mathlib.Omega.{arith}
use lib.ListN.{length, get_or}
use Rattle.model.specs.Lists.{tabulate}
use Rattle.model.specs.Values.{rows_of}
use Rattle.model.specs.Grounds.{Row}
use Rattle.model_sheet.specs.Frames.{padded, bytes_of, digits_of, framed}
use Rattle.model_sheet.specs.Numbers.{byte_at, half_at, half_bytes}
use Rattle.model_sheet.specs.Reading.{numbers_on, first_numbers, numbers_in}
use Rattle.grid_laws.proofs.ListLaws.{length_tabulate, get_d_tabulate, tabulate_back, tabulate_same}
use Rattle.model_sheet.proofs.NumberLaws.{numbers_table}
use Rattle.sheet_laws.specs.Sections.{rows_line}
use Rattle.sheet_trips.proofs.Bytes.{Small, small_append, small_half, frame_back, frame_line}
use Rattle.sheet_trips.proofs.Bytes.Small.{none, more}

-- The numbers on the first line of a sheet.
pub first_numbers_lem : (first rest : List ℕ) → numbers_in (framed first ++ rest) ≡ numbers_on (bytes_of (digits_of first))
unfolding numbers_in
first_numbers_lem first rest = ap first_numbers (frame_line first rest)

pub written_numbers : (first rest : List ℕ) → Small first → numbers_in (framed first ++ rest) ≡ numbers_on first
written_numbers first rest s = first_numbers_lem first rest ∙ ap numbers_on (frame_back s).1

pub number_at_lem : (x : List ℕ) (i : ℕ) → i < 1024 → get_or (numbers_on x) i 0 ≡ half_at x (3 + 2 * i)
number_at_lem x i h = ap (λ l. get_or l i 0) (numbers_table x) ∙ get_d_tabulate 1024 (λ i. half_at x (3 + 2 * i)) i 0 h

-- Numbers of two bytes each.
halves_at : (ws : List ℕ) (i : ℕ) → half_at (flat_map half_bytes ws) (2 * i) ≡ get_or ws i 0
unfolding half_at flat_map half_bytes
halves_at [] i = refl
halves_at (w ∷ ws) zero = let e : w / 256 * 256 + w % 256 ≡ w = omega arith in e
halves_at (w ∷ ws) (suc i) =
    let e : 2 * suc i ≡ suc (suc (2 * i)) = omega arith in
    let f : suc (suc (2 * i)) + 1 ≡ suc (suc (2 * i + 1)) = omega arith in
    rw (e, f) (halves_at ws i)

small_halves : (ws : List ℕ) → ((i : ℕ) → i < length ws → get_or ws i 0 < 65536) → Small (flat_map half_bytes ws)
unfolding flat_map
small_halves [] h = none
small_halves (w ∷ ws) h = small_append (small_half w (h 0 (omega arith))) (small_halves ws (λ i l. h (suc i) (omega arith)))

halves_back : (m : ℕ) (xs : List ℕ) → Small xs → length xs ≡ 2 * m → flat_map half_bytes (tabulate m (λ i. half_at xs (2 * i))) ≡ xs
unfolding half_at flat_map half_bytes tabulate
halves_back zero [] s l = refl
halves_back zero (x ∷ xs) s l = absurd (omega arith)
halves_back (suc m) [] s l = absurd (omega arith)
halves_back (suc m) (x ∷ []) s l = absurd (omega arith)
halves_back (suc m) (x ∷ y ∷ xs) (more h (more k s)) l =
    let e : (x * 256 + y) / 256 ≡ x = omega arith in
    let f : (x * 256 + y) % 256 ≡ y = omega arith in
    rw (e, f) (ap (λ t. x ∷ y ∷ t) (ap (flat_map half_bytes) (tabulate_same m _ _ (λ i _. behind i)) ∙ halves_back m xs s (omega arith)))
  where
    behind : (i : ℕ) → half_at (x ∷ y ∷ xs) (2 * suc i) ≡ half_at xs (2 * i)
    behind i =
        let e : 2 * suc i ≡ suc (suc (2 * i)) = omega arith in
        let f : suc (suc (2 * i)) + 1 ≡ suc (suc (2 * i + 1)) = omega arith in
        rw (e, f)

behind_three : (a b c : ℕ) (xs : List ℕ) (i : ℕ) → half_at (a ∷ b ∷ c ∷ xs) (3 + i) ≡ half_at xs i
unfolding half_at
behind_three a b c xs i =
    let e : 3 + i ≡ suc (suc (suc i)) = omega arith in
    let f : suc (suc (suc i)) + 1 ≡ suc (suc (suc (i + 1))) = omega arith in
    rw (e, f)

-- The line of rows whose numbers have two bytes each.
module _ (n : ℕ) (rows : List ℕ) where
  numbers_there : (i : ℕ) → half_at (rows_line n rows) (3 + 2 * i) ≡ get_or (tabulate (2 * n) (λ i. get_or rows i 0)) i 0
  unfolding rows_line half_bytes
  numbers_there i =
      let ws = tabulate (2 * n) (λ i. get_or rows i 0) in
      behind_three 9 (n / 256) (n % 256) (flat_map half_bytes ws) (2 * i) ∙ halves_at ws i

  pub small_rows : n ≤ 512 → ((i : ℕ) → i < 2 * n → get_or rows i 0 ≤ 4095) → Small (rows_line n rows)
  unfolding rows_line
  small_rows few fits =
      let ws = tabulate (2 * n) (λ i. get_or rows i 0) in
      more {b = 9} (omega arith)
      (small_append (small_half n (omega arith))
      (small_halves ws
      (λ i h. let l = rw length_tabulate at h in rw (get_d_tabulate (2 * n) (λ i. get_or rows i 0) i 0 l) (omega (arith, fits i l)))))

  -- Read from it they are those that it was written of.
  pub number_back : n ≤ 512 → (i : ℕ) → i < 2 * n → get_or (numbers_on (rows_line n rows)) i 0 ≡ get_or rows i 0
  number_back few i h = number_at_lem (rows_line n rows) i (omega arith) ∙ numbers_there i ∙ get_d_tabulate (2 * n) (λ i. get_or rows i 0) i 0 h

  pub rows_heads : (byte_at (padded (rows_line n rows)) 0 ≡ 9) × (half_at (padded (rows_line n rows)) 1 ≡ n)
  unfolding padded rows_line half_bytes half_at
  rows_heads = (refl, omega arith)

-- Rows that are given by the same numbers.
pub rows_same : (n : ℕ) (one other : List ℕ) → ((i : ℕ) → i < 2 * n → get_or one i 0 ≡ get_or other i 0) → rows_of n one ≡ rows_of n other
unfolding rows_of
rows_same n one other h =
    tabulate_back none_there (tabulate n (row_in other)) n (row_in one) (length_tabulate n (row_in other))
    (λ k l. ap₂ (λ (s m : ℕ). let r : Row = record { start = s; length = m } in r) (h (2 * k) (omega arith)) (h (2 * k + 1) (omega arith))
    ∙ sym (get_d_tabulate n (row_in other) k none_there l))
  where
    none_there : Row
    none_there = record { start = 0; length = 0 }

    row_in : List ℕ → ℕ → Row
    row_in rows i = record { start = get_or rows (2 * i) 0; length = get_or rows (2 * i + 1) 0 }

-- A line of bytes that was read as rows, written.
pub rows_row : (bs : List ℕ) → Small bs → byte_at (padded bs) 0 ≡ 9 → half_at (padded bs) 1 ≤ 512 → length bs ≡ 3 + 4 * half_at (padded bs) 1
    → rows_line (half_at (padded bs) 1) (numbers_on bs) ≡ bs
unfolding padded half_at rows_line half_bytes
rows_row [] s e few l = absurd (omega arith)
rows_row (a ∷ []) s e few l = absurd (omega arith)
rows_row (a ∷ b ∷ []) s e few l = absurd (omega arith)
rows_row (a ∷ b ∷ c ∷ xs) (more p (more q (more r s))) e few l = back
  where
    n : ℕ
    n = b * 256 + c

    number : (i : ℕ) → i < 2 * n → get_or (numbers_on (a ∷ b ∷ c ∷ xs)) i 0 ≡ half_at xs (2 * i)
    number i h = number_at_lem (a ∷ b ∷ c ∷ xs) i (omega arith) ∙ behind_three a b c xs (2 * i)

    table : tabulate (2 * n) (λ i. get_or (numbers_on (a ∷ b ∷ c ∷ xs)) i 0) ≡ tabulate (2 * n) (λ i. half_at xs (2 * i))
    table =
        tabulate_back 0 (tabulate (2 * n) (λ i. half_at xs (2 * i))) (2 * n) (λ i. get_or (numbers_on (a ∷ b ∷ c ∷ xs)) i 0) (length_tabulate (2 * n) _)
        (λ k h. number k h ∙ sym (get_d_tabulate (2 * n) (λ i. half_at xs (2 * i)) k 0 h))

    back : rows_line n (numbers_on (a ∷ b ∷ c ∷ xs)) ≡ a ∷ b ∷ c ∷ xs
    back =
        let f : (b * 256 + c) / 256 ≡ b = omega arith in
        let g : (b * 256 + c) % 256 ≡ c = omega arith in
        rw (f, g) (ap (λ t. 9 ∷ b ∷ c ∷ t) (ap (flat_map half_bytes) table ∙ halves_back (2 * n) xs s (omega arith)) ∙ ap (λ k. k ∷ b ∷ c ∷ xs) (sym e))
