-- A chain, written and read: line by line the reading takes up what was written.
use Prim.Native.Nat.{ℕ, zero, suc, ◌+◌, ◌-◌, ◌*◌, ◌/◌, ◌%◌, ◌≤◌, ◌<◌}
use mathlib.Core.Bool.{Bool, true, false, cond, not}
use mathlib.Core.List.{List, [], ◌∷◌, ◌++◌, flat_map}
use mathlib.Core.Logic.{◌⊎◌, inl, inr}
use mathlib.Core.Path.{◌≡◌, refl, sym, ap, ◌∙◌}
use native.Mathlib.Omega.{arith}
use lib.Ieee.{to_bits, binary32}
use lib.Ieee.Bits.{of_bits-to_bits, to_bits-lt}
use lib.IntN.{ℤ, pos}
use lib.ListN.{length, take, get_or, replicate, get_or-append, get_or-eq_default}
use lib.Seq.{get_or-take, length-take-le}
use lib.Signed.{mag}
use borrow.Author.Tests.{eq-eqb, ne_eqb, lt-leb, lt-ltb, le-ltb}
use Rattle.model.specs.declared.Bounds.{Bounds}
use Rattle.model.specs.declared.Chain.{Chain}
use Rattle.model.specs.declared.Grid.{Grid}
use Rattle.model.specs.declared.Kernel.{Kernel}
use Rattle.model.specs.declared.Kernel.TheVariants as kernel
use Rattle.model.specs.declared.Last.{Last}
use Rattle.model.specs.declared.Last.TheVariants as stood
use Rattle.model.specs.declared.Reading.{Reading}
use Rattle.std.specs.Prelude.{Ok}
use Rattle.model.specs.Boxes.Part.{box}
use Rattle.model.specs.Lists.{tabulate, up_to as first_numbers, any}
use Rattle.model.specs.Values.{sizes_of, rows_of, ground_of, dims_of, entry_of, offset_of, capacity_of, order_of, part_of, no_bounds, bounds_of, no_order, normal_grid, blank_chain, set_grid, set_order, trimmed}
use Rattle.model.specs.Grounds.Ground.{skewed}
use Rattle.model.specs.Judging.{bad_dims, bad_sizes, bad_row_count, bad_rows, judge_chain}
use Rattle.model_sheet.specs.Lines.{lines_of}
use Rattle.model_sheet.specs.Frames.{kept, padded, framed}
use Rattle.model_sheet.specs.Numbers.{byte_at, word_at, word_bytes, signed_word, word_pattern}
use Rattle.model_sheet.specs.Reading.{bad_kernel, bad_form, malformed, next_in_chain, miscounted, among, misplaced, bad_length, sizes_in, lowest_in, highest_in, kernel_in}
use Rattle.model_sheet.specs.Reading.{numbers_on, taken, with_grid, with_rows, with_box, with_capacity, with_order, with_kernel, start, closes, complete, read_lines, end_verdict, numbers_in, read_chain}
use Rattle.model_sheet.specs.Writing.{grid_line, offset_line, index_pair, capacity_line, kernel_line, chain_lines, sheet_of}
use Rattle.grid_laws.proofs.ListLaws.{length_tabulate, get_d_tabulate}
use Rattle.grid_laws.proofs.ChainLaws.{length_order, dims_flat, ground_flat, ground_skewed}
use Rattle.grid_laws.proofs.TermLaws.{order_below}
use Rattle.sheet_laws.specs.Sections.{grid_row, rows_line, to_capacities, lines_behind, line_at, lines_from}
use Rattle.sheet_laws.proofs.Cases.{by_bool, by_lt}
use Rattle.sheet_laws.proofs.AcceptedLines.{taken_grid, taken_rows, taken_box, taken_capacity, taken_order, taken_kernel}
use Rattle.sheet_laws.proofs.AcceptedChains.{number_fits, some_rows, few_rows, no_bad_row, Accepted, accepted_chain}
use Rattle.sheet_laws.proofs.SheetLength.{pairs_length, rows_length}
use Rattle.sheet_laws.proofs.SheetSections.{grid_front, rows_line_lem, offset_front, line_offset, line_box, line_capacity, line_order, line_kernel, sheet_rows}
use Rattle.sheet_trips.specs.RoundTrips.{FactorsFit, InRange, WriteRead}
use Rattle.sheet_trips.proofs.Bytes.{Small, small_each, small_append, small_take, small_word, line_seen, past, filters_read}
use Rattle.sheet_trips.proofs.Bytes.Small.{none, more}
use Rattle.sheet_trips.proofs.Values.{signed_word_pattern, word_pattern_small}
use Rattle.sheet_trips.proofs.RowLines.{written_numbers, small_rows, number_back, rows_heads, rows_same}
use Rattle.sheet_trips.proofs.ReadBack.{up_to, read_sizes, read_entries, read_offsets, read_capacities, read_order, read_back, normal_flat, normal_skewed, normal_dims, normal_chain, same_chain}
use Rattle.sheet_trips.proofs.LineGoes.{all_clear, Goes, line_goes, four, small_offset, offset_goes}

-- What stood last behind k offsets, a box or none, and g capacities.
unfoldable last_of : (boxed : Bool) (k g : ℕ) → Last
last_of boxed zero g = stood.Grid
last_of boxed (suc k) zero = cond boxed stood.Box stood.Offset
last_of boxed (suc k) (suc g) = stood.Capacity

-- Where reading the sheet of a chain stands behind k offsets, these bounds and g capacities.
abbrev midway : Chain → Bounds → ℕ → ℕ → Reading
midway c b k g = record {
  last = last_of b.stood k g;
  given = g;
  chain = record {
    grid = normal_grid c.grid;
    window = record { count = k; offsets = read_offsets (dims_of c.grid) c.window k };
    bounds = b;
    capacities = read_capacities c.capacities g;
    order = no_order;
    kernel = kernel.Raw;
  };
}

-- The chain's own bounds, read.
abbrev read_bounds : Chain → Bounds
read_bounds c = bounds_of (part_of (dims_of c.grid) c.bounds)

-- Before the kernel, where an order stood or did not.
abbrev to_kernel : Chain → (ordered : Bool) → Reading
to_kernel c ordered =
    let n = c.window.count in
    record {
      last = cond ordered stood.Order (last_of (read_bounds c).stood n (n - 1));
      given = n - 1;
      chain = set_order (read_order n ordered c.order.filters) (midway c (read_bounds c) n (n - 1)).chain;
    }

-- Behind the first line, which gives the grid.
abbrev only_grid : Grid → Reading
only_grid g = record { last = stood.Grid; given = 0; chain = set_grid g blank_chain }

-- A byte of the padded front of a row.
module _ (n : ℕ) (row : List ℕ) (h : n ≤ length row) (l : n ≤ kept) where
  byte_in : (i : ℕ) → i < n → byte_at (padded (take n row)) i ≡ byte_at row i
  unfolding padded
  byte_in i q =
      get_or-take kept (take n row ++ replicate kept 0) i 0 (omega arith)
      ∙ get_or-append (take n row) (replicate kept 0) 0 i (omega (arith, length-take-le n row h))
      ∙ get_or-take n row i 0 q

  byte_out : (i : ℕ) → i < kept → n ≤ i → byte_at (padded (take n row)) i ≡ 0
  unfolding padded
  byte_out i t q = get_or-take kept (take n row ++ replicate kept 0) i 0 t ∙ past (take n row) i (omega (arith, length-take-le n row h))

  -- A word of it, which the line has or has not.
  word_in : (i d dims w : ℕ) → i + 3 < kept → (d < dims → i + 4 ≤ n) → (dims ≤ d → n ≤ i) → w < 4294967296
      → byte_at row i ≡ w / 16777216 → byte_at row (i + 1) ≡ w / 65536 % 256 → byte_at row (i + 2) ≡ w / 256 % 256 → byte_at row (i + 3) ≡ w % 256
      → word_at (padded (take n row)) i ≡ up_to 0 dims d w
  unfolding word_at
  word_in i d dims w t inside outside b a0 a1 a2 a3 =
      by_lt d dims
      (λ q. let u = inside q in
      let z : w / 16777216 * 16777216 + w / 65536 % 256 * 65536 + w / 256 % 256 * 256 + w % 256 ≡ w = omega arith in
      rw (lt-ltb _ _ q, byte_in i (omega arith), byte_in (i + 1) (omega arith), byte_in (i + 2) (omega arith), byte_in (i + 3) (omega arith), a0, a1, a2, a3) z)
      (λ q. let u = outside q in
      rw (
        le-ltb _ _ q,
        byte_out i (omega arith) (omega arith),
        byte_out (i + 1) (omega arith) (omega arith),
        byte_out (i + 2) (omega arith) (omega arith),
        byte_out (i + 3) (omega arith) (omega arith),
      ))

front_sizes : (dims : ℕ) (f : ℕ → ℕ) → dims ≤ 4 → take dims (tabulate 4 (λ d. up_to 0 dims d (f d))) ≡ tabulate dims f
unfolding tabulate
front_sizes zero f h = refl
front_sizes (suc zero) f h = refl
front_sizes (suc (suc zero)) f h = refl
front_sizes (suc (suc (suc zero))) f h = refl
front_sizes (suc (suc (suc (suc zero)))) f h = refl
front_sizes (suc (suc (suc (suc (suc d))))) f h = absurd (omega arith)

front_entries : (dims : ℕ) (f : ℕ → ℤ) → dims ≤ 4 → four (tabulate dims f) ≡ tabulate 4 (λ d. up_to (pos 0) dims d (f d))
unfolding tabulate
front_entries zero f h = refl
front_entries (suc zero) f h = refl
front_entries (suc (suc zero)) f h = refl
front_entries (suc (suc (suc zero))) f h = refl
front_entries (suc (suc (suc (suc zero)))) f h = refl
front_entries (suc (suc (suc (suc (suc d))))) f h = absurd (omega arith)

-- The order of a chain sheet's lines: an offset behind the grid or an offset, the box behind an offset, a capacity and an order behind an offset, the box or a
-- capacity, the kernel behind these or the order.
before_offset : (k : ℕ) → (last_of false k 0 ≡ stood.Grid) ⊎ (last_of false k 0 ≡ stood.Offset)
unfolding last_of
before_offset zero = inl refl
before_offset (suc k) = inr refl

box_comes : (n : ℕ) → 0 < n → misplaced true (last_of false n 0) 0 n 8 ≡ false
unfolding last_of misplaced among any next_in_chain miscounted
box_comes zero h = absurd (omega arith)
box_comes (suc n) h = refl

box_last : (n : ℕ) → 0 < n → last_of true n 0 ≡ stood.Box
unfolding last_of
box_last zero h = absurd (omega arith)
box_last (suc n) h = refl

capacity_comes : (boxed : Bool) (n g : ℕ) → g + 1 < n → misplaced true (last_of boxed n g) g n 3 ≡ false
unfolding last_of misplaced among any next_in_chain miscounted
capacity_comes boxed zero g h = absurd (omega arith)
capacity_comes true (suc n) zero h = lt-leb _ _ h
capacity_comes false (suc n) zero h = lt-leb _ _ h
capacity_comes boxed (suc n) (suc g) h = lt-leb _ _ h

capacity_last : (boxed : Bool) (n g : ℕ) → g + 1 < n → last_of boxed n (suc g) ≡ stood.Capacity
unfolding last_of
capacity_last boxed zero g h = absurd (omega arith)
capacity_last boxed (suc n) g h = refl

order_comes : (boxed : Bool) (n g : ℕ) → n ≡ g + 1 → misplaced true (last_of boxed n g) g n 6 ≡ false
unfolding last_of misplaced among any next_in_chain miscounted
order_comes boxed zero g h = absurd (omega arith)
order_comes true (suc n) zero h = ap not (eq-eqb _ _ h)
order_comes false (suc n) zero h = ap not (eq-eqb _ _ h)
order_comes boxed (suc n) (suc g) h = ap not (eq-eqb _ _ h)

kernel_comes : (boxed ordered : Bool) (n g : ℕ) → n ≡ g + 1 → misplaced true (cond ordered stood.Order (last_of boxed n g)) g n 4 ≡ false
unfolding last_of misplaced among any next_in_chain miscounted
kernel_comes boxed true n g h = ap not (eq-eqb _ _ h)
kernel_comes boxed false zero g h = absurd (omega arith)
kernel_comes true false (suc n) zero h = ap not (eq-eqb _ _ h)
kernel_comes false false (suc n) zero h = ap not (eq-eqb _ _ h)
kernel_comes boxed false (suc n) (suc g) h = ap not (eq-eqb _ _ h)

-- `rows` stand beside the chain, `told` are those on the first line of its sheet.
module _ (c : Chain) (rows told : List ℕ) (range : InRange c) (ok : Accepted c rows) where
  abbrev count : ℕ
  count = c.window.count

  -- The grid's line, of a rectangle.
  module _ (flat : c.grid.skewed ≡ false) where
    abbrev sizes : ℕ
    sizes = c.grid.dims

    few_sizes : sizes ≤ 4
    few_sizes = omega (arith, ok.few_dims, dims_flat c.grid flat)

    abbrev grid_bytes : List ℕ
    grid_bytes = take (2 + 4 * sizes) (grid_row c.grid)

    grid_fits : 2 + 4 * sizes ≤ length (grid_row c.grid)
    unfolding grid_row word_bytes
    grid_fits = omega (arith, few_sizes)

    grid_short : 2 + 4 * sizes ≤ kept
    grid_short = omega (arith, few_sizes)

    grid_heads : (byte_at (padded grid_bytes) 0 ≡ 1) × (byte_at (padded grid_bytes) 1 ≡ sizes)
    unfolding grid_row
    grid_heads =
        (byte_in (2 + 4 * sizes) (grid_row c.grid) grid_fits grid_short 0 (omega arith), byte_in (2 + 4 * sizes) (grid_row c.grid) grid_fits grid_short 1 (omega arith))

    size_in : (i d : ℕ) → i + 3 < kept → (d < sizes → i + 4 ≤ 2 + 4 * sizes) → (sizes ≤ d → 2 + 4 * sizes ≤ i)
        → (let w = get_or c.grid.sizes d 0 in let row = grid_row c.grid in
        byte_at row i ≡ w / 16777216 → byte_at row (i + 1) ≡ w / 65536 % 256 → byte_at row (i + 2) ≡ w / 256 % 256 → byte_at row (i + 3) ≡ w % 256
        → word_at (padded grid_bytes) i ≡ up_to 0 sizes d w)
    size_in i d t inside outside = word_in (2 + 4 * sizes) (grid_row c.grid) grid_fits grid_short i d sizes (get_or c.grid.sizes d 0) t inside outside (range.sizes d)

    grid_sizes : sizes_in (padded grid_bytes) ≡ read_sizes c.grid
    unfolding sizes_in read_sizes tabulate grid_row word_bytes
    grid_sizes =
        rw (
          size_in 2 0 (omega arith) (λ q. omega arith) (λ q. omega arith) refl refl refl refl,
          size_in 6 1 (omega arith) (λ q. omega arith) (λ q. omega arith) refl refl refl refl,
          size_in 10 2 (omega arith) (λ q. omega arith) (λ q. omega arith) refl refl refl refl,
          size_in 14 3 (omega arith) (λ q. omega arith) (λ q. omega arith) refl refl refl refl,
        )

    good_sizes : bad_sizes (take sizes (read_sizes c.grid)) ≡ false
    unfolding read_sizes sizes_of
    good_sizes = ap bad_sizes (front_sizes sizes (λ d. get_or c.grid.sizes d 0) few_sizes) ∙ ok.sizes flat

    sizes_taken : taken start (padded grid_bytes) ≡ midway c no_bounds 0 0
    unfolding last_of with_grid read_offsets read_capacities
    sizes_taken =
        taken_grid start (padded grid_bytes) grid_heads.0
        ∙ rw (grid_heads.1, grid_sizes) (ap (λ (g : Grid). only_grid g) (normal_flat c.grid flat))

    sizes_goes : Goes true told start grid_bytes (midway c no_bounds 0 0)
    unfolding malformed bad_form misplaced among any next_in_chain miscounted bad_dims bad_length
    sizes_goes =
        let heads = grid_heads in
        let l : length grid_bytes ≡ 2 + 4 * sizes = length-take-le (2 + 4 * sizes) (grid_row c.grid) grid_fits in
        let p : 2 ≤ 2 + 4 * sizes = omega arith in
        let z : 2 + 4 * sizes ≡ 0 → ⊥ = λ e. omega arith in
        let some : sizes ≡ 0 → ⊥ = λ e. omega (arith, ok.some_dims, dims_flat c.grid flat) in (
          all_clear true told start (line_seen grid_bytes)
              (rw (heads.0, l, ne_eqb _ _ z, le-ltb _ _ p))
              (rw heads.0)
              (rw (heads.0, heads.1, ne_eqb _ _ some, le-ltb _ _ few_sizes))
              (rw heads.0)
              (rw (heads.0, heads.1, l, eq-eqb (2 + 4 * sizes) (2 + 4 * sizes) refl))
              (rw (heads.0, heads.1, grid_sizes) good_sizes)
              (rw heads.0)
              (rw heads.0)
              (rw heads.0),
          sizes_taken,
        )

    small_sizes : Small grid_bytes
    unfolding grid_row
    small_sizes =
        small_take (2 + 4 * sizes)
        (more {b = 1} (omega arith)
        (more {b = sizes} (omega (arith, few_sizes)) (small_append (size 0) (small_append (size 1) (small_append (size 2) (size 3))))))
      where
        size : (d : ℕ) → Small (word_bytes (get_or c.grid.sizes d 0))
        size d = small_word _ (range.sizes d)

  -- Of rows.
  module _ (skewed : c.grid.skewed ≡ true) where
    abbrev row_count : ℕ
    row_count = c.grid.rows

    abbrev row_bytes : List ℕ
    row_bytes = rows_line row_count rows

    fine : bad_rows (rows_of row_count rows) ≡ false
    fine = ok.good_rows skewed

    few_of_them : row_count ≤ 512
    few_of_them = few_rows row_count rows fine

    small_numbers : Small row_bytes
    small_numbers = small_rows row_count rows few_of_them (number_fits row_count rows (no_bad_row row_count rows fine))

    rows_taken : taken start (padded row_bytes) ≡ midway c no_bounds 0 0
    unfolding last_of with_rows read_offsets read_capacities
    rows_taken =
        let heads = rows_heads row_count rows in
        taken_rows start (padded row_bytes) heads.0
        ∙ rw heads.1 (ap (λ (g : Grid). only_grid g) (normal_skewed c.grid skewed))

    rows_goes : rows_of row_count told ≡ rows_of row_count rows → Goes true told start row_bytes (midway c no_bounds 0 0)
    unfolding malformed bad_form misplaced among any next_in_chain miscounted bad_row_count bad_length
    rows_goes again =
        let heads = rows_heads row_count rows in
        let l : length row_bytes ≡ 3 + 4 * row_count = rows_length row_count rows in
        let p : 3 ≤ 3 + 4 * row_count = omega arith in
        let z : 3 + 4 * row_count ≡ 0 → ⊥ = λ e. omega arith in
        let some : row_count ≡ 0 → ⊥ = λ e. omega (arith, some_rows row_count rows fine) in (
          all_clear true told start (line_seen row_bytes)
              (rw (heads.0, l, ne_eqb _ _ z, le-ltb _ _ p))
              (rw heads.0)
              (rw heads.0)
              (rw (heads.0, heads.1, ne_eqb _ _ some, le-ltb _ _ few_of_them))
              (rw (heads.0, heads.1, l, eq-eqb (3 + 4 * row_count) (3 + 4 * row_count) refl))
              (rw heads.0)
              (rw (heads.0, heads.1, again) (no_bad_row row_count rows fine))
              (rw heads.0)
              (rw heads.0),
          rows_taken,
        )

  -- Of either kind.
  small_grid : Small (grid_line c.grid rows)
  small_grid =
      by_bool c.grid.skewed
      (λ e. rw (rows_line_lem c.grid rows e) (small_numbers e))
      (λ e. rw (grid_front c.grid rows e (few_sizes e)) (small_sizes e))

  grid_goes : (c.grid.skewed ≡ true → rows_of c.grid.rows told ≡ rows_of c.grid.rows rows) → Goes true told start (grid_line c.grid rows) (midway c no_bounds 0 0)
  grid_goes again =
      by_bool c.grid.skewed
      (λ e. rw (rows_line_lem c.grid rows e) (rows_goes e (again e)))
      (λ e. rw (grid_front c.grid rows e (few_sizes e)) (sizes_goes e))

  abbrev dims : ℕ
  dims = dims_of c.grid

  -- An offset's line.
  entry_fits : (k d : ℕ) → mag (get_or (offset_of dims c.window k) d (pos 0)) < 32768
  unfolding offset_of
  entry_fits k d =
      by_lt d dims
      (λ l. rw (get_d_tabulate dims (λ i. entry_of c.window k i) d (pos 0) l) (range.entries (4 * k + d)))
      (λ l. rw (get_or-eq_default (offset_of dims c.window k) (pos 0) {n = d} (rw length_tabulate l)) (omega arith))

  offset_read : (k : ℕ) → k < 32 → Goes true told (midway c no_bounds k 0) (offset_line (offset_of dims c.window k)) (midway c no_bounds (suc k) 0)
  unfolding last_of read_offsets read_entries offset_of
  offset_read k less =
      let s : k + 1 ≡ suc k = omega arith in
      let l : length (offset_of dims c.window k) ≡ dims = length_tabulate dims (λ i. entry_of c.window k i) in
      let g = offset_goes true told (midway c no_bounds k 0) (offset_of dims c.window k) (before_offset k) (l ∙ sym (normal_dims c.grid)) (omega (arith, l, ok.few_dims)) (entry_fits k) less in
      (g.0, g.1 ∙ rw (s, front_entries dims (λ i. entry_of c.window k i) ok.few_dims))

  -- A capacity's line.
  module _ (b : Bounds) (k : ℕ) (less : k + 1 < count) where
    abbrev places : ℕ
    places = capacity_of c k

    capacity_word : word_at (padded (capacity_line places)) 1 ≡ places
    unfolding capacity_line word_bytes padded word_at
    capacity_word = let h = range.capacities k in omega arith

    capacity_goes : Goes true told (midway c b count k) (capacity_line places) (midway c b count (suc k))
    unfolding last_of with_capacity malformed bad_form bad_length read_capacities capacity_line word_bytes padded
    capacity_goes =
        let s : k + 1 ≡ suc k = omega arith in (
          all_clear true told (midway c b count k) (line_seen (capacity_line places)) refl (capacity_comes b.stood count k less) refl refl refl refl refl refl refl,
          taken_capacity (midway c b count k) (padded (capacity_line places)) refl ∙ rw (s, capacity_word, capacity_last b.stood count k less),
        )

-- A word from its bytes.
word_whole : (w : ℕ) → w < 4294967296 → w / 16777216 * 16777216 + w / 65536 % 256 * 65536 + w / 256 % 256 * 256 + w % 256 ≡ w
word_whole w h = omega arith

-- The box's line.
abbrev box_bytes : ℕ → Bounds → List ℕ
box_bytes dims b = 8 ∷ flat_map (index_pair b) (first_numbers dims)

abbrev Fits : List ℤ → Type 0
Fits xs = (d : ℕ) → mag (get_or xs d (pos 0)) < 2147483648

abbrev Back : List ℤ → ℕ → Type 0
Back xs d = let w = word_pattern (get_or xs d (pos 0)) in signed_word (w / 16777216 * 16777216 + w / 65536 % 256 * 65536 + w / 256 % 256 * 256 + w % 256) ≡ get_or xs d (pos 0)

index_back : (xs : List ℤ) → Fits xs → (d : ℕ) → Back xs d
index_back xs fits d =
    let z = get_or xs d (pos 0) in
    ap signed_word (word_whole (word_pattern z) (word_pattern_small z (fits d))) ∙ signed_word_pattern z (fits d)

module _ (b : Bounds) (low : Fits b.lowest) (high : Fits b.highest) where
  lo : (d : ℕ) → Back b.lowest d
  lo d = index_back b.lowest low d

  hi : (d : ℕ) → Back b.highest d
  hi d = index_back b.highest high d

  pairs_back : (dims : ℕ) → dims ≤ 4 → (let x = padded (box_bytes dims b) in
      record { stood = true; lowest = lowest_in x; highest = highest_in x }
      ≡ bounds_of (box (tabulate dims (λ d. get_or b.lowest d (pos 0))) (tabulate dims (λ d. get_or b.highest d (pos 0)))))
  unfolding bounds_of lowest_in highest_in padded flat_map first_numbers tabulate index_pair word_bytes word_at signed_word
  pairs_back zero few = refl
  pairs_back (suc zero) few = rw (lo 0, hi 0)
  pairs_back (suc (suc zero)) few = rw (lo 0, hi 0, lo 1, hi 1)
  pairs_back (suc (suc (suc zero))) few = rw (lo 0, hi 0, lo 1, hi 1, lo 2, hi 2)
  pairs_back (suc (suc (suc (suc zero)))) few = rw (lo 0, hi 0, lo 1, hi 1, lo 2, hi 2, lo 3, hi 3)
  pairs_back (suc (suc (suc (suc (suc d))))) few = absurd (omega arith)

  small_box : (dims : ℕ) → Small (box_bytes dims b)
  unfolding flat_map index_pair
  small_box dims = more {b = 8} (omega arith) (pairs (first_numbers dims))
    where
      pairs : (ds : List ℕ) → Small (flat_map (index_pair b) ds)
      pairs [] = none
      pairs (d ∷ ds) =
          small_append (small_append (small_word _ (word_pattern_small _ (low d))) (small_word _ (word_pattern_small _ (high d)))) (pairs ds)

-- The kernel's line.
kernel_head : (k : Kernel) → (malformed true (length (kernel_line k)) (byte_at (padded (kernel_line k)) 0) (byte_at (padded (kernel_line k)) 1) ≡ false)
    × (byte_at (padded (kernel_line k)) 0 ≡ 4)
unfolding kernel_line word_bytes padded malformed bad_form bad_kernel
kernel_head kernel.Raw = (refl, refl)
kernel_head kernel.Difference = (refl, refl)
kernel_head (kernel.Scaled f) = (refl, refl)
kernel_head (kernel.Blend g) = (refl, refl)

kernel_read : (k : Kernel) → FactorsFit k → kernel_in (padded (kernel_line k)) ≡ k
unfolding FactorsFit kernel_line word_bytes padded kernel_in word_at
kernel_read kernel.Raw h = refl
kernel_read kernel.Difference h = refl
kernel_read (kernel.Scaled f) h = rw (word_whole (to_bits binary32 f) (to_bits-lt binary32 f h), of_bits-to_bits binary32 f h)
kernel_read (kernel.Blend g) h =
    rw (
      word_whole (to_bits binary32 g.a) (to_bits-lt binary32 g.a h.0),
      word_whole (to_bits binary32 g.b) (to_bits-lt binary32 g.b h.1),
      of_bits-to_bits binary32 g.a h.0,
      of_bits-to_bits binary32 g.b h.1,
    )

-- All lines, one after the other.
small_kernel : (k : Kernel) → FactorsFit k → Small (kernel_line k)
unfolding FactorsFit kernel_line
small_kernel kernel.Raw h = more {b = 4} (omega arith) (more {b = 0} (omega arith) none)
small_kernel kernel.Difference h = more {b = 4} (omega arith) (more {b = 1} (omega arith) none)
small_kernel (kernel.Scaled f) h = more {b = 4} (omega arith) (more {b = 2} (omega arith) (small_word _ (to_bits-lt binary32 f h)))
small_kernel (kernel.Blend g) h =
    more {b = 4} (omega arith)
    (more {b = 3} (omega arith) (small_append (small_word _ (to_bits-lt binary32 g.a h.0)) (small_word _ (to_bits-lt binary32 g.b h.1))))

module _ (c : Chain) (rows told : List ℕ) (range : InRange c) (ok : Accepted c rows) where
  abbrev n : ℕ
  n = c.window.count

  small_capacity : (k : ℕ) → Small (capacity_line (capacity_of c k))
  unfolding capacity_line
  small_capacity k = more {b = 3} (omega arith) (small_word _ (range.capacities k))

  -- The order's line, where it stood.
  abbrev ordered : Bool
  ordered = c.order.stood

  abbrev order : List ℕ
  order = order_of n c.order

  small_order : Small (6 ∷ order)
  small_order = more {b = 6} (omega arith) (small_each order (λ t h. omega (arith, order_below n order ok.once t h, ok.few)))

  order_taken : ordered ≡ true → with_order (midway c (read_bounds c) n (n - 1)) (padded (6 ∷ order)) ≡ to_kernel c true
  unfolding with_order read_order order_of
  order_taken is =
      ap (λ (filters : List ℕ). record {
        last = stood.Order;
        given = n - 1;
        chain = set_order (record { stood = true; filters = filters }) (midway c (read_bounds c) n (n - 1)).chain;
      })
      (filters_read n 6 order (length_order n c.order ∙ ap (λ (b : Bool). cond b n 0) is) ∙ ap (λ (b : Bool). tabulate 32 (λ t. get_or (cond b (tabulate n (λ i. get_or c.order.filters i 0)) []) t 0)) is)

  order_goes : ordered ≡ true → Goes true told (midway c (read_bounds c) n (n - 1)) (6 ∷ order) (to_kernel c true)
  unfolding malformed bad_form bad_length padded
  order_goes is =
      let e : n ≡ n - 1 + 1 = omega (arith, ok.some) in
      let l : length order ≡ cond ordered n 0 = length_order n c.order in
      let due : length (6 ∷ order) ≡ 1 + n = omega (arith, l ∙ ap (λ (b : Bool). cond b n 0) is) in
      let some : length (6 ∷ order) ≡ 0 → ⊥ = λ z. omega (arith, due) in (
        all_clear true told (midway c (read_bounds c) n (n - 1)) (line_seen (6 ∷ order))
            (rw (ne_eqb _ _ some))
            (order_comes (read_bounds c).stood n (n - 1) e)
            refl
            refl
            (rw (eq-eqb _ _ due))
            refl
            refl
            refl
            refl,
        taken_order (midway c (read_bounds c) n (n - 1)) (padded (6 ∷ order)) refl ∙ order_taken is,
      )

  abbrev at_end : Reading
  at_end = record { last = stood.Kernel; given = n - 1; chain = read_back c }

  kernel_goes : Goes true told (to_kernel c ordered) (kernel_line c.kernel) at_end
  unfolding with_kernel bad_length read_back
  kernel_goes =
      let head = kernel_head c.kernel in
      let e : n ≡ n - 1 + 1 = omega (arith, ok.some) in (
        all_clear true told (to_kernel c ordered) (line_seen (kernel_line c.kernel))
            head.0
            (rw head.1 (kernel_comes (read_bounds c).stood ordered n (n - 1) e))
            (rw head.1)
            (rw head.1)
            (rw head.1)
            (rw head.1)
            (rw head.1)
            (rw head.1)
            (rw head.1),
        taken_kernel (to_kernel c ordered) (padded (kernel_line c.kernel)) head.1 ∙ rw (kernel_read c.kernel range.factors),
      )

  offsets_read : (i k m : ℕ) → k + i ≡ n
      → read_lines true told (midway c no_bounds k 0) (lines_of (lines_from c rows (1 + k) (i + m))) ≡ read_lines true told (midway c no_bounds n 0) (lines_of (lines_from c rows (1 + n) m))
  unfolding lines_from
  offsets_read zero k m e =
      let f : k ≡ n = omega arith in
      let z : 0 + m ≡ m = omega arith in
      rw (z, f)
  offsets_read (suc i) k m e =
      let z : suc i + m ≡ suc (i + m) = omega arith in
      let y : 1 + k + 1 ≡ 1 + suc k = omega arith in
      rw (z, line_offset c rows k (omega arith), ← offset_front (dims_of c.grid) c.window k ok.few_dims, y)
      (line_goes true told (midway c no_bounds k 0) (midway c no_bounds (suc k) 0) (offset_line (offset_of (dims_of c.grid) c.window k)) _
      (small_offset (offset_of (dims_of c.grid) c.window k) (entry_fits c rows told range ok k)) (offset_read c rows told range ok k (omega (arith, ok.few)))
      ∙ offsets_read i (suc k) m (omega arith))

  -- The box's line, where it stood.
  abbrev boxed : Bool
  boxed = c.bounds.stood

  bounds_read : boxed ≡ true → (let x = padded (box_bytes (dims_of c.grid) c.bounds) in
      record { stood = true; lowest = lowest_in x; highest = highest_in x } ≡ read_bounds c)
  unfolding part_of
  bounds_read is = pairs_back c.bounds range.lowest range.highest (dims_of c.grid) ok.few_dims ∙ rw is

  box_goes : boxed ≡ true → Goes true told (midway c no_bounds n 0) (box_bytes (dims_of c.grid) c.bounds) (midway c (read_bounds c) n 0)
  unfolding with_box malformed bad_form bad_length padded first_numbers
  box_goes is =
      let bs = box_bytes (dims_of c.grid) c.bounds in
      let due : length bs ≡ 1 + 8 * dims_of c.grid = omega (arith, pairs_length c.bounds (first_numbers (dims_of c.grid)), length_tabulate (dims_of c.grid) (λ k. k)) in
      let some : length bs ≡ 0 → ⊥ = λ z. omega (arith, due) in (
        all_clear true told (midway c no_bounds n 0) (line_seen bs)
            (rw (ne_eqb _ _ some))
            (box_comes n ok.some)
            refl
            refl
            (rw (normal_dims c.grid, eq-eqb _ _ due))
            refl
            refl
            refl
            refl,
        taken_box (midway c no_bounds n 0) (padded bs) refl ∙ rw (← box_last n ok.some) (ap (λ (b : Bounds). midway c b n 0) (bounds_read is)),
      )

  box_read : (m : ℕ) → read_lines true told (midway c no_bounds n 0) (lines_of (lines_from c rows (1 + n) (cond boxed 1 0 + m)))
      ≡ read_lines true told (midway c (read_bounds c) n 0) (lines_of (lines_from c rows (1 + to_capacities boxed n) m))
  unfolding lines_from part_of bounds_of
  box_read m = go boxed refl
    where
      go : (b : Bool) → boxed ≡ b
          → read_lines true told (midway c no_bounds n 0) (lines_of (lines_from c rows (1 + n) (cond b 1 0 + m)))
          ≡ read_lines true told (midway c (read_bounds c) n 0) (lines_of (lines_from c rows (1 + to_capacities b n) m))
      go true e =
          let z : 1 + m ≡ suc m = omega arith in
          let y : 1 + (n + 1) ≡ 1 + n + 1 = omega arith in
          rw (z, y)
          (ap (λ l. read_lines true told (midway c no_bounds n 0) (lines_of (framed l ++ lines_from c rows (1 + n + 1) m))) (line_box c rows e ok.few_dims)
          ∙ line_goes true told (midway c no_bounds n 0) (midway c (read_bounds c) n 0) (box_bytes (dims_of c.grid) c.bounds) (lines_from c rows (1 + n + 1) m)
          (small_box c.bounds range.lowest range.highest (dims_of c.grid)) (box_goes e))
      go false e =
          let z : 0 + m ≡ m = omega arith in
          let y : 1 + (n + 0) ≡ 1 + n = omega arith in
          rw (z, y, e)

  capacities_read : (i k m : ℕ) → k + i + 1 ≡ n
      → read_lines true told (midway c (read_bounds c) n k) (lines_of (lines_from c rows (1 + to_capacities boxed n + k) (i + m)))
      ≡ read_lines true told (midway c (read_bounds c) n (n - 1)) (lines_of (lines_from c rows (to_capacities boxed n + n) m))
  unfolding lines_from
  capacities_read zero k m e =
      let f : k ≡ n - 1 = omega arith in
      let y : 1 + to_capacities boxed n + k ≡ to_capacities boxed n + n = omega arith in
      let z : 0 + m ≡ m = omega arith in
      rw (z, y, f)
  capacities_read (suc i) k m e =
      let z : suc i + m ≡ suc (i + m) = omega arith in
      let y : 1 + to_capacities boxed n + k + 1 ≡ 1 + to_capacities boxed n + suc k = omega arith in
      rw (z, line_capacity c rows k (omega arith), y)
      (line_goes true told (midway c (read_bounds c) n k) (midway c (read_bounds c) n (suc k)) (capacity_line (capacity_of c k)) _ (small_capacity k) (capacity_goes c rows told range ok (read_bounds c) k (omega arith))
      ∙ capacities_read i (suc k) m (omega arith))

  order_read : read_lines true told (midway c (read_bounds c) n (n - 1)) (lines_of (lines_from c rows (to_capacities boxed n + n) (cond ordered 1 0 + 1)))
      ≡ read_lines true told (to_kernel c ordered) (lines_of (lines_from c rows (to_capacities boxed n + n + cond ordered 1 0) 1))
  unfolding lines_from read_order tabulate
  order_read = go ordered refl
    where
      at : ℕ
      at = to_capacities boxed n + n

      go : (b : Bool) → ordered ≡ b
          → read_lines true told (midway c (read_bounds c) n (n - 1)) (lines_of (lines_from c rows at (cond b 1 0 + 1))) ≡ read_lines true told (to_kernel c b) (lines_of (lines_from c rows (at + cond b 1 0) 1))
      go true e =
          ap (λ l. read_lines true told (midway c (read_bounds c) n (n - 1)) (lines_of (framed l ++ lines_from c rows (at + 1) 1))) (line_order c rows e ok.some ok.few)
          ∙ line_goes true told (midway c (read_bounds c) n (n - 1)) (to_kernel c true) (6 ∷ order) (lines_from c rows (at + 1) 1) small_order (order_goes e)
      go false e =
          let z : at ≡ at + 0 = omega arith in
          ap (λ m. read_lines true told (to_kernel c false) (lines_of (lines_from c rows m 1))) z

  all_read : (c.grid.skewed ≡ true → rows_of c.grid.rows told ≡ rows_of c.grid.rows rows)
      → read_lines true told start (lines_of (sheet_of c rows)) ≡ record { verdict = Ok tt; reading = at_end }
  unfolding lines_from line_at read_lines lines_of lines_behind
  all_read again =
      let b : ℕ = cond boxed 1 0 in
      let s : ℕ = cond ordered 1 0 in
      let a : ℕ = 1 + to_capacities boxed n in
      let z : lines_behind boxed ordered n + 1 ≡ suc (n + (b + (n - 1 + (s + 1)))) = omega (arith, ok.some) in
      let y : a + 0 ≡ a = omega arith in
      rw (sheet_rows c rows ok.few_dims ok.some ok.few, z)
      (line_goes true told start (midway c no_bounds 0 0) (grid_line c.grid rows) (lines_from c rows 1 (n + (b + (n - 1 + (s + 1)))))
      (small_grid c rows told range ok) (grid_goes c rows told range ok again)
      ∙ offsets_read n 0 (b + (n - 1 + (s + 1))) (omega arith)
      ∙ box_read (n - 1 + (s + 1))
      ∙ ap (λ i. read_lines true told (midway c (read_bounds c) n 0) (lines_of (lines_from c rows i (n - 1 + (s + 1))))) (sym y)
      ∙ capacities_read (n - 1) 0 (s + 1) (omega (arith, ok.some))
      ∙ order_read
      ∙ ap (λ l. read_lines true told (to_kernel c ordered) (lines_of (framed l ++ []))) (line_kernel c rows ok.some)
      ∙ line_goes true told (to_kernel c ordered) at_end (kernel_line c.kernel) [] (small_kernel c.kernel range.factors) kernel_goes)

-- The numbers on the first line of the sheet.
module _ (c : Chain) (rows : List ℕ) (range : InRange c) (ok : Accepted c rows) where
  abbrev told : List ℕ
  told = numbers_in (sheet_of c rows)

  told_are : told ≡ numbers_on (grid_line c.grid rows)
  unfolding sheet_of chain_lines flat_map
  told_are = written_numbers (grid_line c.grid rows) _ (small_grid c rows [] range ok)

  number_told : c.grid.skewed ≡ true → (i : ℕ) → i < 2 * c.grid.rows → get_or told i 0 ≡ get_or rows i 0
  number_told e i h =
      ap (λ rows. get_or rows i 0) told_are
      ∙ ap (λ l. get_or (numbers_on l) i 0) (rows_line_lem c.grid rows e)
      ∙ number_back c.grid.rows rows (few_rows c.grid.rows rows (ok.good_rows e)) i h

  rows_told : c.grid.skewed ≡ true → rows_of c.grid.rows told ≡ rows_of c.grid.rows rows
  rows_told e = rows_same c.grid.rows told rows (number_told e)

  ground_told : ground_of c.grid told ≡ ground_of c.grid rows
  ground_told =
      by_bool c.grid.skewed
      (λ e. ground_skewed c.grid e told ∙ ap skewed (rows_told e) ∙ sym (ground_skewed c.grid e rows))
      (λ e. ground_flat c.grid e told ∙ sym (ground_flat c.grid e rows))

judged_alike : (c d : Chain) (rows rows' : List ℕ) → trimmed c rows ≡ trimmed d rows' → judge_chain c rows ≡ judge_chain d rows'
unfolding judge_chain
judged_alike c d rows rows' e = rw e

pub write_read : WriteRead
unfolding read_chain end_verdict complete closes
write_read c rows range h =
    record {
      read = back ∙ (λ i. Ok (normal_chain c rows ok.few i));
      same = ap (λ (d : Chain). trimmed d (told c rows range ok)) (sym (normal_chain c rows ok.few)) ∙ same;
      lent = number_told c rows range ok;
    }
  where
    ok : Accepted c rows
    ok = accepted_chain c rows h

    same : trimmed (read_back c) (told c rows range ok) ≡ trimmed c rows
    same = same_chain c rows (told c rows range ok) ok (ground_told c rows range ok)

    back : read_chain (sheet_of c rows) ≡ Ok (read_back c)
    back =
        rw (
          all_read c rows (told c rows range ok) range ok (rows_told c rows range ok),
          judged_alike (read_back c) c (told c rows range ok) rows same,
          h,
        )
