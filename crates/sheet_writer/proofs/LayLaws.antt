-- How frames and lines are laid into the output, one after the other.
use Prim.Native.Nat.{ℕ, suc, ◌+◌, ◌-◌, ◌*◌, ◌/◌, ◌%◌, ◌≤◌, ◌<◌}
use mathlib.Core.Bool.{Bool, true, false, cond, ◌&&◌}
use mathlib.Core.List.{List, [], ◌∷◌, ◌++◌}
use mathlib.Core.Path.{◌≡◌, refl, sym, ap, ap₂, subst, ◌∙◌}
use native.Mathlib.Numerals.{add-one}
use native.Mathlib.Omega.{arith}
use lib.Dec.{ltb}
use lib.IntN.{pos}
use lib.ListN.{length, take, drop, get_or, set, replicate, length-append, drop_of_length-le}
use lib.Seq.{sets, drop-cons, ext_get_or, get_or-take, take-take, take-append-le, length-take-le}
use borrow.Author.Tests.{lt-ltb, le-ltb}
use Rattle.model.specs.declared.Bounds.{Bounds}
use Rattle.model.specs.declared.Chain.{Chain}
use Rattle.model.specs.declared.Grid.{Grid}
use Rattle.model.specs.declared.Kernel.{Kernel}
use Rattle.model.specs.declared.Kernel.TheVariants as kernel
use Rattle.model.specs.Lists.{tabulate}
use Rattle.model.specs.Values.{dims_of}
use Rattle.model_sheet.specs.Frames.{kept, digit_of, digits_of, framed, padded}
use Rattle.model_sheet.specs.Numbers.{half_bytes, word_bytes, word_pattern}
use Rattle.model_sheet.specs.Lines.{line_feed}
use Rattle.model_sheet.specs.Writing.{grid_line, index_pair, capacity_line, kernel_line, sheet_of}
use Rattle.grid_laws.proofs.ListLaws.{length_tabulate, get_d_tabulate}
use Rattle.grid_laws.proofs.ChainLaws.{dims_flat}
use Rattle.sheet_laws.proofs.Cases.{by_bool, by_lt}
use Rattle.sheet_laws.proofs.SheetLength.{framed_length, grid_length}
use Rattle.sheet_laws.proofs.SheetSections.{grid_front, sheet_rows}
use Rattle.sheet_laws.specs.declared.Part.{Part}
use Rattle.sheet_laws.specs.declared.Part.TheVariants as part
use Rattle.sheet_writer.specs.Laying.{Inside}
use Rattle.sheet_laws.specs.Sections.{grid_row, grid_len, offset_row, box_row, order_row, row_of, len_of, to_capacities, part_behind, part_at, lines_behind, line_at, lines_from}

sets_join : (xs ys l : List ℕ) (i : ℕ) → sets (sets l i xs) (i + length xs) ys ≡ sets l i (xs ++ ys)
sets_join [] ys l i = ap (λ j. sets l j ys) (zero_right i)
  where
    zero_right : (i : ℕ) → i + 0 ≡ i
    zero_right i = omega arith
sets_join (x ∷ xs) ys l i =
    let e : i + suc (length xs) ≡ suc i + length xs = omega arith in
    ap (λ j. sets (sets (set l i x) (suc i) xs) j ys) e ∙ sets_join xs ys (set l i x) (suc i)

-- One byte of a frame more, and its LF.
module _ (x out : List ℕ) (len p i : ℕ) (whole : len ≤ length x) where
  pub frame_on : i < len
      → sets (set (set out p (digit_of (get_or x i 0 / 16))) (p + 1) (digit_of (get_or x i 0 % 16))) (p + 2) (framed (drop (i + 1) (take len x)))
      ≡ sets out p (framed (drop i (take len x)))
  unfolding framed digits_of
  frame_on h =
      let e : p + 1 ≡ suc p = omega arith in
      let f : p + 2 ≡ suc (suc p) = omega arith in
      let q : i < length (take len x) = omega (arith, length-take-le len x whole) in
      rw (e, f, add-one, drop-cons (take len x) i 0 q, get_or-take len x i 0 h)

  pub frame_end : len ≤ i → set out p line_feed ≡ sets out p (framed (drop i (take len x)))
  unfolding framed digits_of
  frame_end h = rw (drop_of_length-le (take len x) {i = i} (omega (arith, length-take-le len x whole)))

-- A pair of indices behind one another.
pub pair_put : (b : Bounds) (d : ℕ) (l : List ℕ) (i : ℕ)
    → sets (sets l i (word_bytes (word_pattern (get_or b.lowest d (pos 0))))) (i + 4) (word_bytes (word_pattern (get_or b.highest d (pos 0)))) ≡ sets l i (index_pair b d)
unfolding index_pair word_bytes
pair_put b d l i = sets_join (word_bytes (word_pattern (get_or b.lowest d (pos 0)))) (word_bytes (word_pattern (get_or b.highest d (pos 0)))) l i

-- The filter numbers on an order's row.
abbrev pub rows : List ℕ → List ℕ
rows filters = tabulate 32 (λ t. get_or filters t 0)

module _ (filters : List ℕ) where
  pub length_numbers : length (rows filters) ≡ 32
  length_numbers = length_tabulate 32 (λ t. get_or filters t 0)

  number_at_lem : (t : ℕ) → t < 32 → get_or filters t 0 ≡ get_or (rows filters) t 0
  number_at_lem t h = sym (get_d_tabulate 32 (λ t. get_or filters t 0) t 0 h)

  pub numbers_same : length filters ≡ 32 → filters ≡ rows filters
  numbers_same h = ext_get_or 0 filters (rows filters) (h ∙ sym length_numbers) (λ i b. number_at_lem i (omega (arith, h)))

  pub numbers_put : 6 ∷ (rows filters ++ replicate (kept - 33) 0) ≡ padded (6 ∷ rows filters)
  unfolding tabulate padded
  numbers_put = refl

-- A line is a front of its row, and the row is short.
abbrev Fit : ℕ → List ℕ → Type 0
Fit n xs = (n ≤ length xs) × (length xs ≤ kept)

fit_kernel : (k : Kernel) → Fit (length (kernel_line k)) (kernel_line k)
unfolding kernel_line word_bytes
fit_kernel kernel.Raw = (omega arith, omega arith)
fit_kernel kernel.Difference = (omega arith, omega arith)
fit_kernel (kernel.Scaled f) = (omega arith, omega arith)
fit_kernel (kernel.Blend g) = (omega arith, omega arith)

pub fit_grid : (g : Grid) → g.dims ≤ 4 → Fit (2 + 4 * g.dims) (grid_row g)
unfolding grid_row word_bytes
fit_grid g h = (omega arith, omega arith)

pub fit : (c : Chain) (p : Part) → dims_of c.grid ≤ 4 → c.window.count ≤ 32 → Fit (len_of c p) (row_of c p)
unfolding len_of row_of offset_row box_row index_pair order_row capacity_line half_bytes word_bytes
fit c (part.Offset k) h m = (omega arith, omega arith)
fit c part.Box h m = (omega arith, omega arith)
fit c (part.Capacity k) h m = (omega arith, omega arith)
fit c part.Order h m =
    let l = length_numbers c.order.filters in
    (omega (arith, l), omega (arith, l))
fit c part.Kernel h m = fit_kernel c.kernel

take_padded : (n : ℕ) (xs : List ℕ) → Fit n xs → take n (padded xs) ≡ take n xs
unfolding padded
take_padded n xs f = take-take n kept _ (omega arith) ∙ take-append-le n xs _ f.0

pub inside : (boxed ordered : Bool) (n m : ℕ) → Inside n (part_at boxed ordered n m)
unfolding Inside part_at part_behind
inside boxed ordered n m =
    let a : ℕ = to_capacities boxed n in
    by_lt m n
    (λ l. rw (lt-ltb _ _ l) l)
    (λ l. by_lt m a
    (λ b. rw (le-ltb _ _ l, lt-ltb _ _ b) tt)
    (λ b. by_lt (m - a + 1) n
    (λ q. rw (le-ltb _ _ l, le-ltb _ _ b, lt-ltb _ _ q) q)
    (λ q. rw (le-ltb _ _ l, le-ltb _ _ b, le-ltb _ _ q) (last (ltb (m - a) n && ordered)))))
  where
    last : (b : Bool) → Inside n (cond b part.Order part.Kernel)
    last true = tt
    last false = tt

pub offset_inside : (n : ℕ) (p : Part) (k : ℕ) → Inside n p → p ≡ part.Offset k → k < n
unfolding Inside
offset_inside n p k h e = subst (λ (q : Part). Inside n q) e h

pub capacity_inside : (n : ℕ) (p : Part) (k : ℕ) → Inside n p → p ≡ part.Capacity k → k + 1 < n
unfolding Inside
capacity_inside n p k h e = subst (λ (q : Part). Inside n q) e h

-- The grid's line, and the lines behind it.
pub flat_len : (g : Grid) → g.skewed ≡ false → grid_len g ≡ 2 + 4 * g.dims
unfolding grid_len
flat_len g flat = rw flat

pub skewed_len : (g : Grid) → g.skewed ≡ true → grid_len g ≡ 3 + 4 * g.rows
unfolding grid_len
skewed_len g skewed = rw skewed

pub few_bytes : (g : Grid) → dims_of g ≤ 4 → (g.skewed ≡ true → g.rows ≤ 512) → grid_len g ≤ 2051
few_bytes g few rows =
    by_bool g.skewed
    (λ e. omega (arith, skewed_len g e, rows e))
    (λ e. omega (arith, flat_len g e, dims_flat g e))

pub grid_laid : (g : Grid) (rows : List ℕ) → g.skewed ≡ false → g.dims ≤ 4 → framed (take (2 + 4 * g.dims) (padded (grid_row g))) ≡ framed (grid_line g rows)
grid_laid g rows flat few = ap framed (take_padded _ (grid_row g) (fit_grid g few) ∙ sym (grid_front g rows flat few))

grid_framed : (g : Grid) (rows : List ℕ) → length (framed (grid_line g rows)) ≡ 2 * grid_len g + 1
grid_framed g rows = framed_length (grid_line g rows) ∙ ap (λ n. 2 * n + 1) (grid_length g rows)

module _ (c : Chain) (rows : List ℕ) (few : dims_of c.grid ≤ 4) (some : 0 < c.window.count) (most : c.window.count ≤ 32)
    (lines : ℕ) (told : lines ≡ lines_behind c.bounds.stood c.order.stood c.window.count) where
  abbrev behind_grid : List ℕ
  behind_grid = lines_from c rows 1 lines

  pub grid_first : sheet_of c rows ≡ framed (grid_line c.grid rows) ++ behind_grid
  unfolding lines_from line_at
  grid_first =
      let e : lines_behind c.bounds.stood c.order.stood c.window.count + 1 ≡ suc lines = omega (arith, told) in
      sheet_rows c rows few some most ∙ ap (lines_from c rows 0) e

  pub all_length : length (sheet_of c rows) ≡ 2 * grid_len c.grid + 1 + length behind_grid
  all_length = ap length grid_first ∙ length-append (framed (grid_line c.grid rows)) _ ∙ ap (λ n. n + length behind_grid) (grid_framed c.grid rows)

  pub all_laid : (out behind : List ℕ) (at : ℕ) → at ≡ 2 * grid_len c.grid + 1 → behind ≡ sets out 0 (framed (grid_line c.grid rows))
      → sets behind at behind_grid ≡ sets out 0 (sheet_of c rows)
  all_laid out behind at a b =
      let e : at ≡ 0 + length (framed (grid_line c.grid rows)) = omega (arith, grid_framed c.grid rows) in
      ap₂ (λ (o : List ℕ) (i : ℕ). sets o i behind_grid) b e
      ∙ sets_join (framed (grid_line c.grid rows)) behind_grid out 0
      ∙ ap (sets out 0) (sym grid_first)

pub few_ahead : (boxed : Bool) (n : ℕ) → to_capacities boxed n ≤ n + 1
few_ahead true n = omega arith
few_ahead false n = omega arith

pub few_lines : (boxed ordered : Bool) (n : ℕ) → lines_behind boxed ordered n ≤ 2 * n + 2
unfolding lines_behind
few_lines boxed true n = omega (arith, few_ahead boxed n)
few_lines boxed false n = omega (arith, few_ahead boxed n)

-- The lines that remain behind the first m of them.
module _ (c : Chain) (rows : List ℕ) (m lines : ℕ) where
  abbrev at_m : Part
  at_m = part_at c.bounds.stood c.order.stood c.window.count m

  pub no_more : lines ≤ m → lines_from c rows (1 + m) (lines - m) ≡ []
  unfolding lines_from
  no_more h =
      let e : lines - m ≡ 0 = omega arith in
      rw e

  module _ (few : dims_of c.grid ≤ 4) (most : c.window.count ≤ 32) (more : m < lines) where
    abbrev line : List ℕ
    line = framed (take (len_of c at_m) (row_of c at_m))

    line_length : length line ≡ 2 * len_of c at_m + 1
    line_length = framed_length (take (len_of c at_m) (row_of c at_m)) ∙ ap (λ n. 2 * n + 1) (length-take-le _ _ (fit c at_m few most).0)

    one_more_lem : lines_from c rows (1 + m) (lines - m) ≡ line ++ lines_from c rows (1 + (m + 1)) (lines - (m + 1))
    unfolding lines_from line_at
    one_more_lem =
        let e : lines - m ≡ suc (lines - (m + 1)) = omega arith in
        let f : 1 + m ≡ suc m = omega arith in
        let g : 1 + (m + 1) ≡ suc m + 1 = omega arith in
        rw (e, f, g)

    pub more_length : length (lines_from c rows (1 + m) (lines - m)) ≡ 2 * len_of c at_m + 1 + length (lines_from c rows (1 + (m + 1)) (lines - (m + 1)))
    more_length = ap length one_more_lem ∙ length-append line _ ∙ ap (λ n. n + length (lines_from c rows (1 + (m + 1)) (lines - (m + 1)))) line_length

    pub line_on : (out : List ℕ) (at : ℕ)
        → sets (sets out at (framed (take (len_of c at_m) (padded (row_of c at_m))))) (at + 2 * len_of c at_m + 1) (lines_from c rows (1 + (m + 1)) (lines - (m + 1)))
        ≡ sets out at (lines_from c rows (1 + m) (lines - m))
    line_on out at =
        let f : at + 2 * len_of c at_m + 1 ≡ at + length line = omega (arith, line_length) in
        rw (f, take_padded _ _ (fit c at_m few most), one_more_lem) (sets_join line (lines_from c rows (1 + (m + 1)) (lines - (m + 1))) out at)
