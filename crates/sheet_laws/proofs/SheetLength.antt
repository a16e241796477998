-- How long frames are, and a chain sheet at most.
use Prim.Native.Nat.{ℕ, zero, suc, ◌+◌, ◌*◌, ◌-◌, ◌≤◌}
use mathlib.Core.Bool.{Bool, true, false, cond}
use mathlib.Core.List.{List, [], ◌∷◌, ◌++◌, map, flat_map}
use mathlib.Core.Path.{◌≡◌, refl, sym, ◌∙◌, ap}
use native.Mathlib.Nat.{zero-add, zero-mul, suc-mul, mul-le-mul_left}
use native.Mathlib.Omega.{arith}
use lib.IntN.{ℤ}
use lib.ListN.{length, get_or, length-append}
use Rattle.model.specs.declared.Bounds.{Bounds}
use Rattle.model.specs.declared.Chain.{Chain}
use Rattle.model.specs.declared.Grid.{Grid}
use Rattle.model.specs.declared.Kernel.{Kernel}
use Rattle.model.specs.declared.Kernel.TheVariants as kernel
use Rattle.model.specs.declared.Order.{Order}
use Rattle.model.specs.Lists.{tabulate, up_to}
use Rattle.model.specs.Grounds.{Ground}
use Rattle.model.specs.Values.{sizes_of, dims_of, entry_of, offset_of, offsets_of, capacity_of, capacities_of, order_of}
use Rattle.model_sheet.specs.Lines.{line_feed}
use Rattle.model_sheet.specs.Frames.{digits_of, framed}
use Rattle.model_sheet.specs.Numbers.{half_bytes, word_bytes, pattern}
use Rattle.model_sheet.specs.Writing.{ground_line, grid_line, offset_line, index_pair, box_lines, capacity_line, order_lines, kernel_line, chain_lines, sheet_of, longest_sheet}
use Rattle.grid_laws.proofs.ListLaws.{length_tabulate}
use Rattle.grid_laws.proofs.ChainLaws.{sizes_count, length_order, dims_flat, ground_flat, dims_skewed}
use Rattle.sheet_laws.specs.Sections.{rows_line, grid_len}
use Rattle.sheet_laws.proofs.Cases.{by_bool}
use Rattle.sheet_laws.proofs.AcceptedChains.{few_rows, Accepted}
use Rattle.sheet_laws.proofs.SheetSections.{rows_line_lem}

pub digits_length : (bs : List ℕ) → length (digits_of bs) ≡ 2 * length bs
unfolding digits_of
digits_length [] = refl
digits_length (b ∷ bs) = omega (arith, digits_length bs)

pub framed_length : (bs : List ℕ) → length (framed bs) ≡ 2 * length bs + 1
unfolding framed
framed_length bs = length-append (digits_of bs) (line_feed ∷ []) ∙ ap (λ n. n + 1) (digits_length bs)

flat_append : (f : List ℕ → List ℕ) (xs ys : List (List ℕ)) → length (flat_map f (xs ++ ys)) ≡ length (flat_map f xs) + length (flat_map f ys)
unfolding flat_map
flat_append f [] ys = sym (zero-add _)
flat_append f (x ∷ xs) ys = omega (arith, length-append (f x) (flat_map f (xs ++ ys)), length-append (f x) (flat_map f xs), flat_append f xs ys)

words_length : (ws : List ℕ) → length (flat_map word_bytes ws) ≡ 4 * length ws
unfolding flat_map word_bytes
words_length [] = refl
words_length (w ∷ ws) = omega (arith, words_length ws)

pub entries_length : (es : List ℤ) → length (flat_map (λ e. half_bytes (pattern e)) es) ≡ 2 * length es
unfolding flat_map half_bytes
entries_length [] = refl
entries_length (e ∷ es) = omega (arith, entries_length es)

offset_length : (o : List ℤ) → length (framed (offset_line o)) ≡ 4 * length o + 3
unfolding offset_line
offset_length o = omega (arith, framed_length (offset_line o), entries_length o)

-- Offsets of d entries.
offsets_length : (d n : ℕ) (f : ℕ → List ℤ) → ((k : ℕ) → length (f k) ≡ d) → length (flat_map framed (map offset_line (tabulate n f))) ≡ n * (4 * d + 3)
unfolding flat_map tabulate
offsets_length d zero f sized = sym (zero-mul (4 * d + 3))
offsets_length d (suc n) f sized =
    omega (
      arith,
      length-append (framed (offset_line (f 0))) (flat_map framed (map offset_line (tabulate n (λ i. f (suc i))))),
      offset_length (f 0),
      sized 0,
      suc-mul n (4 * d + 3),
      offsets_length d n (λ i. f (suc i)) (λ k. sized (suc k)),
    )

capacities_length : (n : ℕ) (f : ℕ → ℕ) → length (flat_map framed (map capacity_line (tabulate n f))) ≡ 11 * n
unfolding flat_map tabulate capacity_line word_bytes
capacities_length zero f = refl
capacities_length (suc n) f =
    omega (
      arith,
      length-append (framed (capacity_line (f 0))) (flat_map framed (map capacity_line (tabulate n (λ i. f (suc i))))),
      framed_length (capacity_line (f 0)),
      capacities_length n (λ i. f (suc i)),
    )

pub pairs_length : (b : Bounds) (ds : List ℕ) → length (flat_map (index_pair b) ds) ≡ 8 * length ds
unfolding flat_map index_pair word_bytes
pairs_length b [] = refl
pairs_length b (d ∷ ds) = omega (arith, pairs_length b ds)

box_length : (d : ℕ) (b : Bounds) → length (flat_map framed (box_lines d b)) ≤ 16 * d + 3
unfolding flat_map box_lines up_to
box_length d b = go b.stood
  where
    pairs : List ℕ
    pairs = flat_map (index_pair b) (up_to d)

    go : (s : Bool) → length (flat_map framed (cond s ((8 ∷ pairs) ∷ []) [])) ≤ 16 * d + 3
    go true = omega (arith, length-append (framed (8 ∷ pairs)) [], framed_length (8 ∷ pairs), pairs_length b (up_to d), length_tabulate d (λ k. k))
    go false = omega arith

order_length : (n : ℕ) (o : Order) → n ≤ 32 → length (flat_map framed (order_lines n o)) ≤ 67
unfolding flat_map order_lines
order_length n o h = go o.stood (length_order n o)
  where
    go : (b : Bool) → length (order_of n o) ≡ cond b n 0 → length (flat_map framed (cond b ((6 ∷ order_of n o) ∷ []) [])) ≤ 67
    go true e = omega (arith, length-append (framed (6 ∷ order_of n o)) [], framed_length (6 ∷ order_of n o))
    go false e = omega arith

kernel_length : (k : Kernel) → length (flat_map framed (kernel_line k ∷ [])) ≤ 21
unfolding flat_map framed digits_of kernel_line word_bytes
kernel_length kernel.Raw = omega arith
kernel_length kernel.Difference = omega arith
kernel_length (kernel.Scaled f) = omega arith
kernel_length (kernel.Blend g) = omega arith

-- The grid's line.
halves_length : (xs : List ℕ) → length (flat_map half_bytes xs) ≡ 2 * length xs
unfolding flat_map half_bytes
halves_length [] = refl
halves_length (x ∷ xs) = omega (arith, halves_length xs)

pub rows_length : (n : ℕ) (rows : List ℕ) → length (rows_line n rows) ≡ 3 + 4 * n
unfolding rows_line half_bytes
rows_length n rows = omega (arith, halves_length (tabulate (2 * n) (λ i. get_or rows i 0)), length_tabulate (2 * n) (λ i. get_or rows i 0))

module _ (g : Grid) (rows : List ℕ) where
  skewed_length : g.skewed ≡ true → length (grid_line g rows) ≡ 3 + 4 * g.rows
  skewed_length e = ap length (rows_line_lem g rows e) ∙ rows_length g.rows rows

  flat_length : g.skewed ≡ false → length (grid_line g rows) ≡ 2 + 4 * g.dims
  unfolding ground_line
  flat_length e = ap (λ (t : Ground). length (ground_line (dims_of g) t)) (ground_flat g e rows) ∙ omega (arith, words_length (sizes_of g), sizes_count g)

  pub grid_length : length (grid_line g rows) ≡ grid_len g
  unfolding grid_len
  grid_length =
      by_bool g.skewed
      (λ e. skewed_length e ∙ ap (λ (b : Bool). cond b (3 + 4 * g.rows) (2 + 4 * g.dims)) (sym e))
      (λ e. flat_length e ∙ ap (λ (b : Bool). cond b (3 + 4 * g.rows) (2 + 4 * g.dims)) (sym e))

-- A sheet by the dimensions of its grid.
by_dims : (c : Chain) (rows : List ℕ) (d : ℕ) → dims_of c.grid ≡ d → c.window.count ≤ 32
    → length (sheet_of c rows) ≤ 2 * length (grid_line c.grid rows) + 1 + c.window.count * (4 * d + 3) + (16 * d + 3) + 11 * (c.window.count - 1) + 67 + 21
unfolding sheet_of chain_lines flat_map offsets_of offset_of capacities_of
by_dims c rows d e count =
    let dims : ℕ = dims_of c.grid in
    let offsets = map offset_line (offsets_of dims c.window) in
    let box = box_lines dims c.bounds in
    let capacities = map capacity_line (capacities_of c) in
    let order = order_lines c.window.count c.order in
    let kernel = kernel_line c.kernel ∷ [] in
    omega (
      arith,
      length-append (framed (grid_line c.grid rows)) (flat_map framed (offsets ++ (box ++ (capacities ++ (order ++ kernel))))),
      framed_length (grid_line c.grid rows),
      flat_append framed offsets (box ++ (capacities ++ (order ++ kernel))),
      flat_append framed box (capacities ++ (order ++ kernel)),
      flat_append framed capacities (order ++ kernel),
      flat_append framed order kernel,
      offsets_length d c.window.count (offset_of dims c.window) (λ k. length_tabulate dims (λ d. entry_of c.window k d) ∙ e),
      box_length dims c.bounds,
      e,
      capacities_length (c.window.count - 1) (λ k. capacity_of c k),
      order_length c.window.count c.order count,
      kernel_length c.kernel,
    )

-- An `09` line of 4,103 characters, 32 `02` lines of 11, an `08` line of 35, 31 `03` lines of 11, an `06` line of 67 and an `04` line of 21. On a rectangle the lines `01`, `02` and `08`
-- have up to 37, 19 and 67 characters.
pub sheet_length : (c : Chain) (rows : List ℕ) → Accepted c rows → length (sheet_of c rows) ≤ longest_sheet
sheet_length c rows a = by_bool c.grid.skewed skewed flat
  where
    skewed : c.grid.skewed ≡ true → length (sheet_of c rows) ≤ longest_sheet
    skewed e =
        omega (
          arith,
          by_dims c rows 2 (dims_skewed c.grid e) a.few,
          skewed_length c.grid rows e,
          few_rows c.grid.rows rows (a.good_rows e),
          a.few,
        )

    flat : c.grid.skewed ≡ false → length (sheet_of c rows) ≤ longest_sheet
    flat e =
        let d : ℕ = dims_of c.grid in
        let most : 4 * d + 3 ≤ 19 = omega (arith, a.few_dims) in
        omega (
          arith,
          by_dims c rows d refl a.few,
          flat_length c.grid rows e,
          dims_flat c.grid e,
          a.few_dims,
          mul-le-mul_left c.window.count most,
          a.few,
        )
