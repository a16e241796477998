-- The sheet of a chain is its lines from line 0 on.
use Prim.Native.Nat.{ℕ, zero, suc, ◌+◌, ◌-◌, ◌*◌, ◌≤◌, ◌<◌}
use mathlib.Core.Bool.{Bool, true, false, cond}
use mathlib.Core.List.{List, [], ◌∷◌, ◌++◌, map, flat_map, append_assoc}
use mathlib.Core.Path.{◌≡◌, refl, sym, ap, ap₂, ◌∙◌}
use native.Mathlib.Omega.{arith}
use lib.IntN.{ℤ}
use lib.ListN.{take, get_or}
use lib.Seq.{take-length}
use borrow.Author.Tests.{lt-ltb, le-ltb}
use Rattle.model.specs.declared.Bounds.{Bounds}
use Rattle.model.specs.declared.Chain.{Chain}
use Rattle.model.specs.declared.Grid.{Grid}
use Rattle.model.specs.declared.Order.{Order}
use Rattle.model.specs.declared.Window.{Window}
use Rattle.model.specs.Lists.{tabulate, up_to}
use Rattle.model.specs.Grounds.{Row}
use Rattle.model.specs.Values.{sizes_of, rows_of, dims_of, entry_of, offset_of, offsets_of, capacity_of, capacities_of, order_of}
use Rattle.model_sheet.specs.Frames.{framed}
use Rattle.model_sheet.specs.Numbers.{half_bytes, word_bytes, pattern}
use Rattle.model_sheet.specs.Writing.{ground_line, grid_line, offset_line, index_pair, box_lines, capacity_line, order_lines, kernel_line, chain_lines, sheet_of}
use Rattle.grid_laws.proofs.ListLaws.{tabulate_same}
use Rattle.grid_laws.proofs.ChainLaws.{rows_count, dims_flat, ground_flat, dims_skewed, ground_skewed}
use Rattle.sheet_laws.specs.declared.Part.{Part}
use Rattle.sheet_laws.specs.declared.Part.TheVariants as part
use Rattle.sheet_laws.specs.Sections.{grid_row, rows_line, offset_row, box_row, order_row, row_of, len_of, to_capacities, part_behind, part_at, lines_behind, line_at, lines_from}

-- Up to four words, halves and pairs are the front of four.
four_words : (d : ℕ) (f : ℕ → ℕ) → d ≤ 4
    → flat_map word_bytes (tabulate d f) ≡ take (4 * d) (word_bytes (f 0) ++ (word_bytes (f 1) ++ (word_bytes (f 2) ++ word_bytes (f 3))))
unfolding flat_map tabulate word_bytes
four_words zero f h = refl
four_words (suc zero) f h = refl
four_words (suc (suc zero)) f h = refl
four_words (suc (suc (suc zero))) f h = refl
four_words (suc (suc (suc (suc zero)))) f h = refl
four_words (suc (suc (suc (suc (suc d))))) f h = absurd (omega arith)

four_halves : (d : ℕ) (f : ℕ → ℤ) → d ≤ 4
    → flat_map (λ e. half_bytes (pattern e)) (tabulate d f)
    ≡ take (2 * d) (half_bytes (pattern (f 0)) ++ (half_bytes (pattern (f 1)) ++ (half_bytes (pattern (f 2)) ++ half_bytes (pattern (f 3)))))
unfolding flat_map tabulate half_bytes
four_halves zero f h = refl
four_halves (suc zero) f h = refl
four_halves (suc (suc zero)) f h = refl
four_halves (suc (suc (suc zero))) f h = refl
four_halves (suc (suc (suc (suc zero)))) f h = refl
four_halves (suc (suc (suc (suc (suc d))))) f h = absurd (omega arith)

four_pairs : (d : ℕ) (b : Bounds) → d ≤ 4 → flat_map (index_pair b) (up_to d) ≡ take (8 * d) (index_pair b 0 ++ (index_pair b 1 ++ (index_pair b 2 ++ index_pair b 3)))
unfolding flat_map up_to tabulate index_pair word_bytes
four_pairs zero b h = refl
four_pairs (suc zero) b h = refl
four_pairs (suc (suc zero)) b h = refl
four_pairs (suc (suc (suc zero))) b h = refl
four_pairs (suc (suc (suc (suc zero)))) b h = refl
four_pairs (suc (suc (suc (suc (suc d))))) b h = absurd (omega arith)

-- A line is the front of its row; so is the grid's, where it is a rectangle.
pub grid_front : (g : Grid) (rows : List ℕ) → g.skewed ≡ false → g.dims ≤ 4 → grid_line g rows ≡ take (2 + 4 * g.dims) (grid_row g)
unfolding ground_line grid_row sizes_of
grid_front g rows flat h =
    let e : 2 + 4 * g.dims ≡ suc (suc (4 * g.dims)) = omega arith in
    ap₂ ground_line (dims_flat g flat) (ground_flat g flat rows)
    ∙ rw e (ap (λ t. 1 ∷ g.dims ∷ t) (four_words g.dims (λ d. get_or g.sizes d 0) h))

-- Where it is skewed, its line goes by the numbers of the rows, one behind the other.
abbrev row_at : (ℕ → ℕ) → ℕ → Row
row_at f i = record { start = f (2 * i); length = f (2 * i + 1) }

numbers_joined : (n : ℕ) (f : ℕ → ℕ) → flat_map (λ (r : Row). half_bytes r.start ++ half_bytes r.length) (tabulate n (row_at f)) ≡ flat_map half_bytes (tabulate (2 * n) f)
unfolding flat_map tabulate half_bytes
numbers_joined zero f = refl
numbers_joined (suc n) f =
    let e : 2 * suc n ≡ suc (suc (2 * n)) = omega arith in
    let s : (i : ℕ) → row_at f (suc i) ≡ row_at (λ i. f (suc (suc i))) i = λ i. ap₂ (λ (a b : ℕ). record { start = f a; length = f b }) (omega arith) (omega arith) in
    rw e
    (ap (λ t. half_bytes (f 0) ++ (half_bytes (f 1) ++ t))
    (ap (flat_map (λ (r : Row). half_bytes r.start ++ half_bytes r.length)) (tabulate_same n _ _ (λ i _. s i)) ∙ numbers_joined n (λ i. f (suc (suc i)))))

pub rows_line_lem : (g : Grid) (rows : List ℕ) → g.skewed ≡ true → grid_line g rows ≡ rows_line g.rows rows
unfolding ground_line rows_line rows_of
rows_line_lem g rows skewed =
    ap₂ ground_line (dims_skewed g skewed) (ground_skewed g skewed rows)
    ∙ ap₂ (λ (k : ℕ) (t : List ℕ). 9 ∷ (half_bytes k ++ t)) (rows_count g.rows rows) (numbers_joined g.rows (λ i. get_or rows i 0))

pub offset_front : (d : ℕ) (w : Window) (k : ℕ) → d ≤ 4 → offset_line (offset_of d w k) ≡ take (1 + 2 * d) (offset_row w k)
unfolding offset_line offset_row offset_of
offset_front d w k h =
    let e : 1 + 2 * d ≡ suc (2 * d) = omega arith in
    rw e (ap (λ t. 2 ∷ t) (four_halves d (λ i. entry_of w k i) h))

pub box_front : (d : ℕ) (b : Bounds) → d ≤ 4 → 8 ∷ flat_map (index_pair b) (up_to d) ≡ take (1 + 8 * d) (box_row b)
unfolding box_row
box_front d b h =
    let e : 1 + 8 * d ≡ suc (8 * d) = omega arith in
    rw e (ap (λ t. 8 ∷ t) (four_pairs d b h))

take_tabulate : (n m : ℕ) (f : ℕ → ℕ) → n ≤ m → take n (tabulate m f) ≡ tabulate n f
unfolding tabulate
take_tabulate zero m f h = refl
take_tabulate (suc n) zero f h = absurd (omega arith)
take_tabulate (suc n) (suc m) f h = ap (λ t. f 0 ∷ t) (take_tabulate n m (λ i. f (suc i)) (omega arith))

pub order_front : (n : ℕ) (o : Order) → o.stood ≡ true → n ≤ 32 → 6 ∷ order_of n o ≡ take (1 + n) (order_row o)
unfolding order_of order_row
order_front n o stood h =
    let e : 1 + n ≡ suc n = omega arith in
    rw (e, stood) (ap (λ t. 6 ∷ t) (sym (take_tabulate n 32 (λ t. get_or o.filters t 0) h)))

-- The sections behind the offsets'.
part_box : (ordered : Bool) (n : ℕ) → part_at true ordered n n ≡ part.Box
unfolding part_at
part_box ordered n =
    let l : n ≤ n = omega arith in
    let q : n < n + 1 = omega arith in
    rw (le-ltb _ _ l, lt-ltb _ _ q)

-- Line i behind these and the box's.
part_behind_lem : (boxed ordered : Bool) (n i : ℕ) → part_at boxed ordered n (to_capacities boxed n + i) ≡ part_behind ordered n i
unfolding part_at
part_behind_lem boxed ordered n i =
    let a : ℕ = to_capacities boxed n in
    let l : n ≤ a + i = omega arith in
    let q : a ≤ a + i = omega arith in
    let e : a + i - a ≡ i = omega arith in
    rw (le-ltb _ _ l, le-ltb _ _ q, e)

part_capacity : (boxed ordered : Bool) (n i : ℕ) → i + 1 < n → part_at boxed ordered n (to_capacities boxed n + i) ≡ part.Capacity i
unfolding part_behind
part_capacity boxed ordered n i h = part_behind_lem boxed ordered n i ∙ rw (lt-ltb _ _ h)

part_order : (boxed : Bool) (n : ℕ) → 0 < n → part_at boxed true n (to_capacities boxed n + (n - 1)) ≡ part.Order
unfolding part_behind
part_order boxed n h =
    let q : n ≤ n - 1 + 1 = omega arith in
    let s : n - 1 < n = omega arith in
    part_behind_lem boxed true n (n - 1) ∙ rw (le-ltb _ _ q, lt-ltb _ _ s)

part_kernel : (boxed ordered : Bool) (n : ℕ) → 0 < n → part_at boxed ordered n (to_capacities boxed n + (n - 1 + cond ordered 1 0)) ≡ part.Kernel
unfolding part_behind
part_kernel boxed true n h =
    let q : n ≤ n - 1 + 1 + 1 = omega arith in
    let s : n ≤ n - 1 + 1 = omega arith in
    part_behind_lem boxed true n (n - 1 + 1) ∙ rw (le-ltb _ _ q, le-ltb _ _ s)
part_kernel boxed false n h =
    let q : n ≤ n - 1 + 0 + 1 = omega arith in
    let s : n - 1 + 0 < n = omega arith in
    part_behind_lem boxed false n (n - 1 + 0) ∙ rw (le-ltb _ _ q, lt-ltb _ _ s)

-- Line m by its place.
abbrev ahead : Chain → ℕ
ahead c = to_capacities c.bounds.stood c.window.count

module _ (c : Chain) (rows : List ℕ) where
  line_of : (m : ℕ) (p : Part) → part_at c.bounds.stood c.order.stood c.window.count m ≡ p → line_at c rows (suc m) ≡ take (len_of c p) (row_of c p)
  unfolding line_at
  line_of m p e = ap (λ (p : Part). take (len_of c p) (row_of c p)) e

  pub line_grid : c.grid.skewed ≡ false → dims_of c.grid ≤ 4 → line_at c rows 0 ≡ take (2 + 4 * c.grid.dims) (grid_row c.grid)
  unfolding line_at
  line_grid flat few = grid_front c.grid rows flat (omega (arith, dims_flat c.grid flat))

  pub line_rows : c.grid.skewed ≡ true → line_at c rows 0 ≡ rows_line c.grid.rows rows
  unfolding line_at
  line_rows skewed = rows_line_lem c.grid rows skewed

  pub line_offset : (j : ℕ) → j < c.window.count → line_at c rows (1 + j) ≡ take (1 + 2 * dims_of c.grid) (offset_row c.window j)
  unfolding line_at len_of row_of part_at
  line_offset j h =
      let e : 1 + j ≡ suc j = omega arith in
      rw (e, lt-ltb _ _ h)

  pub line_box : c.bounds.stood ≡ true → dims_of c.grid ≤ 4 → line_at c rows (1 + c.window.count) ≡ 8 ∷ flat_map (index_pair c.bounds) (up_to (dims_of c.grid))
  unfolding len_of row_of
  line_box stood few =
      let n = c.window.count in
      let e : 1 + n ≡ suc n = omega arith in
      ap (line_at c rows) e
      ∙ line_of n part.Box (ap (λ (b : Bool). part_at b c.order.stood n n) stood ∙ part_box c.order.stood n)
      ∙ sym (box_front (dims_of c.grid) c.bounds few)

  pub line_capacity : (j : ℕ) → j + 1 < c.window.count → line_at c rows (1 + ahead c + j) ≡ capacity_line (capacity_of c j)
  unfolding len_of row_of capacity_line word_bytes
  line_capacity j h =
      let e : 1 + ahead c + j ≡ suc (ahead c + j) = omega arith in
      ap (line_at c rows) e ∙ line_of (ahead c + j) (part.Capacity j) (part_capacity c.bounds.stood c.order.stood c.window.count j h)

  pub line_order : c.order.stood ≡ true → 0 < c.window.count → c.window.count ≤ 32
      → line_at c rows (ahead c + c.window.count) ≡ 6 ∷ order_of c.window.count c.order
  unfolding len_of row_of
  line_order stood h most =
      let n = c.window.count in
      let e : ahead c + n ≡ suc (ahead c + (n - 1)) = omega arith in
      ap (line_at c rows) e
      ∙ line_of (ahead c + (n - 1)) part.Order (ap (λ (b : Bool). part_at c.bounds.stood b n (ahead c + (n - 1))) stood ∙ part_order c.bounds.stood n h)
      ∙ sym (order_front n c.order stood most)

  pub line_kernel : 0 < c.window.count → line_at c rows (lines_behind c.bounds.stood c.order.stood c.window.count) ≡ kernel_line c.kernel
  unfolding len_of row_of lines_behind
  line_kernel h =
      let n = c.window.count in
      let s : ℕ = cond c.order.stood 1 0 in
      let e : ahead c + n + s ≡ suc (ahead c + (n - 1 + s)) = omega arith in
      ap (line_at c rows) e
      ∙ line_of (ahead c + (n - 1 + s)) part.Kernel (part_kernel c.bounds.stood c.order.stood n h)
      ∙ take-length (kernel_line c.kernel)

-- Lines one after the other.
pub lines_join : (c : Chain) (rows : List ℕ) (m a b : ℕ) → lines_from c rows m a ++ lines_from c rows (m + a) b ≡ lines_from c rows m (a + b)
unfolding lines_from
lines_join c rows m zero b =
    let e : m + 0 ≡ m = omega arith in
    let f : 0 + b ≡ b = omega arith in
    rw (e, f)
lines_join c rows m (suc a) b =
    let e : m + suc a ≡ m + 1 + a = omega arith in
    let f : suc a + b ≡ suc (a + b) = omega arith in
    rw (e, f)
    (append_assoc (framed (line_at c rows m)) (lines_from c rows (m + 1) a) (lines_from c rows (m + 1 + a) b)
    ∙ ap (λ t. framed (line_at c rows m) ++ t) (lines_join c rows (m + 1) a b))

frames_join : (xs ys : List (List ℕ)) → flat_map framed (xs ++ ys) ≡ flat_map framed xs ++ flat_map framed ys
unfolding flat_map
frames_join [] ys = refl
frames_join (x ∷ xs) ys = ap (λ t. framed x ++ t) (frames_join xs ys) ∙ sym (append_assoc (framed x) (flat_map framed xs) (flat_map framed ys))

-- A section and those behind it.
sections_join : (c : Chain) (rows : List ℕ) (xs ys : List (List ℕ)) (m a b : ℕ) → flat_map framed xs ≡ lines_from c rows m a → flat_map framed ys ≡ lines_from c rows (m + a) b
    → flat_map framed (xs ++ ys) ≡ lines_from c rows m (a + b)
sections_join c rows xs ys m a b p q = frames_join xs ys ∙ ap₂ ◌++◌ p q ∙ lines_join c rows m a b

module _ (c : Chain) (rows : List ℕ) (few : dims_of c.grid ≤ 4) where
  abbrev n : ℕ
  n = c.window.count

  abbrev offset_at : ℕ → List ℤ
  offset_at k = offset_of (dims_of c.grid) c.window k

  offset_lines : (i j : ℕ) → j + i ≤ n → flat_map framed (map offset_line (tabulate i (λ k. offset_at (j + k)))) ≡ lines_from c rows (1 + j) i
  unfolding lines_from flat_map tabulate
  offset_lines zero j h = refl
  offset_lines (suc i) j h =
      let y : 1 + j + 1 ≡ 1 + suc j = omega arith in
      let z : j + 0 ≡ j = omega arith in
      let t : (k : ℕ) → offset_at (j + suc k) ≡ offset_at (suc j + k) = λ k. ap (λ m. offset_at m) (omega arith) in
      rw (y, z, line_offset c rows j (omega arith), ← offset_front (dims_of c.grid) c.window j few)
      (ap (λ u. framed (offset_line (offset_at j)) ++ flat_map framed (map offset_line u)) (tabulate_same i _ _ (λ k _. t k))
      ∙ ap (λ u. framed (offset_line (offset_at j)) ++ u) (offset_lines i (suc j) (omega arith)))

  capacity_lines : (i j : ℕ) → j + i + 1 ≤ n → flat_map framed (map capacity_line (tabulate i (λ k. capacity_of c (j + k)))) ≡ lines_from c rows (1 + ahead c + j) i
  unfolding lines_from flat_map tabulate
  capacity_lines zero j h = refl
  capacity_lines (suc i) j h =
      let y : 1 + ahead c + j + 1 ≡ 1 + ahead c + suc j = omega arith in
      let z : j + 0 ≡ j = omega arith in
      let t : (k : ℕ) → capacity_of c (j + suc k) ≡ capacity_of c (suc j + k) = λ k. ap (λ m. capacity_of c m) (omega arith) in
      rw (y, z, line_capacity c rows j (omega arith))
      (ap (λ u. framed (capacity_line (capacity_of c j)) ++ flat_map framed (map capacity_line u)) (tabulate_same i _ _ (λ k _. t k))
      ∙ ap (λ u. framed (capacity_line (capacity_of c j)) ++ u) (capacity_lines i (suc j) (omega arith)))

  from_zero : (k : ℕ) → k ≡ 0 + k
  from_zero k = omega arith

  all_offsets : flat_map framed (map offset_line (offsets_of (dims_of c.grid) c.window)) ≡ lines_from c rows 1 n
  unfolding offsets_of
  all_offsets =
      ap (λ u. flat_map framed (map offset_line u)) (tabulate_same n _ _ (λ k _. ap (λ m. offset_at m) (from_zero k)))
      ∙ offset_lines n 0 (omega arith)

  abbrev boxes : ℕ
  boxes = cond c.bounds.stood 1 0

  box_line : flat_map framed (box_lines (dims_of c.grid) c.bounds) ≡ lines_from c rows (1 + n) boxes
  unfolding box_lines flat_map lines_from
  box_line = go c.bounds.stood refl
    where
      go : (b : Bool) → c.bounds.stood ≡ b
          → flat_map framed (cond b ((8 ∷ flat_map (index_pair c.bounds) (up_to (dims_of c.grid))) ∷ []) []) ≡ lines_from c rows (1 + n) (cond b 1 0)
      go true e = ap (λ l. framed l ++ []) (sym (line_box c rows e few))
      go false e = refl

  module _ (some : 0 < n) (most : n ≤ 32) where
    abbrev ordered : Bool
    ordered = c.order.stood

    abbrev orders : ℕ
    orders = cond c.order.stood 1 0

    all_capacities : flat_map framed (map capacity_line (capacities_of c)) ≡ lines_from c rows (1 + n + boxes) (n - 1)
    unfolding capacities_of
    all_capacities =
        let z : 1 + ahead c + 0 ≡ 1 + n + boxes = omega arith in
        ap (λ u. flat_map framed (map capacity_line u)) (tabulate_same (n - 1) _ _ (λ k _. ap (λ m. capacity_of c m) (from_zero k)))
        ∙ capacity_lines (n - 1) 0 (omega arith)
        ∙ ap (λ m. lines_from c rows m (n - 1)) z

    order_line : flat_map framed (order_lines n c.order) ≡ lines_from c rows (1 + n + boxes + (n - 1)) orders
    unfolding order_lines flat_map lines_from
    order_line =
        let z : ahead c + n ≡ 1 + n + boxes + (n - 1) = omega arith in
        go ordered refl ∙ ap (λ m. lines_from c rows m orders) z
      where
        go : (b : Bool) → ordered ≡ b → flat_map framed (cond b ((6 ∷ order_of n c.order) ∷ []) []) ≡ lines_from c rows (ahead c + n) (cond b 1 0)
        go true e = ap (λ l. framed l ++ []) (sym (line_order c rows e some most))
        go false e = refl

    last_line_lem : flat_map framed (kernel_line c.kernel ∷ []) ≡ lines_from c rows (1 + n + boxes + (n - 1) + orders) 1
    unfolding flat_map lines_from lines_behind
    last_line_lem =
        let z : ahead c + n + orders ≡ 1 + n + boxes + (n - 1) + orders = omega arith in
        ap (λ l. framed l ++ []) (sym (line_kernel c rows some)) ∙ ap (λ m. lines_from c rows m 1) z

    first_line_lem : (ls : List (List ℕ)) (k : ℕ) → flat_map framed ls ≡ lines_from c rows 1 k → flat_map framed (grid_line c.grid rows ∷ ls) ≡ lines_from c rows 0 (suc k)
    unfolding flat_map lines_from line_at
    first_line_lem ls k e = ap (λ t. framed (grid_line c.grid rows) ++ t) e

    pub sheet_rows : sheet_of c rows ≡ lines_from c rows 0 (lines_behind c.bounds.stood ordered n + 1)
    unfolding sheet_of chain_lines lines_behind
    sheet_rows =
        let e : suc (n + (boxes + (n - 1 + (orders + 1)))) ≡ ahead c + n + orders + 1 = omega arith in
        first_line_lem _ (n + (boxes + (n - 1 + (orders + 1))))
        (sections_join c rows _ _ 1 n (boxes + (n - 1 + (orders + 1))) all_offsets
        (sections_join c rows _ _ (1 + n) boxes (n - 1 + (orders + 1)) box_line
        (sections_join c rows _ _ (1 + n + boxes) (n - 1) (orders + 1) all_capacities
        (sections_join c rows _ _ (1 + n + boxes + (n - 1)) orders 1 order_line last_line_lem))))
        ∙ ap (lines_from c rows 0) e
