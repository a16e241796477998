-- On rows: which vectors are iterations, row by row.
use Prim.Native.Nat.{ℕ, zero, suc, ◌+◌, ◌-◌, ◌≤◌, ◌<◌, min}
use mathlib.Core.Bool.{true, and-eq-true_iff}
use mathlib.Core.List.{List, [], ◌∷◌, map}
use mathlib.Core.Path.{◌≡◌, refl, sym, ◌∙◌, ap, ap₂}
use native.Mathlib.Omega.{arith}
use native.Mathlib.Nat.{le_of_suc-le-suc}
use native.Mathlib.Decide.{dec_le}
use lib.Dec.{eqb}
use lib.ListN.{length, get_or, length-map, get_or-map}
use lib.IntN.{ℤ, pos, neg_ℤ, ◌+ℤ◌, ◌-ℤ◌, +ℤ-neg_ℤ_cancel}
use lib.Signed.{le_z}
use borrow.Author.Tests.{eqb-true}
use Rattle.model.specs.Lists.{tabulate, greatest, all}
use Rattle.model.specs.Vectors.{plus}
use Rattle.model.specs.Geometry.{first_entry, other_entries}
use Rattle.model.specs.Sized.{Sized}
use Rattle.grid_laws.proofs.ListLaws.{length_tabulate, get_d_tabulate, all_each, each_all, greatest_above, greatest_stands}
use Rattle.grid_laws.proofs.IntegerLaws.{least_below, least_stands, above_sum}
use Rattle.grid_laws.proofs.WindowLaws.{first_of_lem, others_of}
use Rattle.model.specs.Grounds.{Row, row, no_row, end, inside, inside_rows, is_iteration}
use Rattle.model.specs.Grounds.Ground.{skewed}
use Rattle.model.specs.Courses.{smallest, low_row, low_column, rows_down, columns_on, row_read, common_start, common_end, common_row}
use Rattle.grid_laws.proofs.RowLaws.{Holds, RowCell, row_there, inside_holds, inside_row_cell, row_cell_inside}

-- The least of some numbers is at most each of them, and one of them.
pub smallest_below : (xs : List ℕ) (k d : ℕ) → k < length xs → smallest xs ≤ get_or xs k d
unfolding smallest
smallest_below [] k d h = absurd (omega arith)
smallest_below (x ∷ []) zero d h = omega arith
smallest_below (x ∷ []) (suc k) d h = absurd (omega arith)
smallest_below (x ∷ y ∷ ys) zero d h = omega arith
smallest_below (x ∷ y ∷ ys) (suc k) d h = omega (arith, smallest_below (y ∷ ys) k d (le_of_suc-le-suc h))

pub smallest_stands : (xs : List ℕ) (d : ℕ) → 0 < length xs → (k : ℕ) × (k < length xs) × (get_or xs k d ≡ smallest xs)
unfolding smallest
smallest_stands [] d h = absurd (omega arith)
smallest_stands (x ∷ []) d h = (0, omega arith, refl)
smallest_stands (x ∷ y ∷ ys) d h = go (smallest_stands (y ∷ ys) d (omega arith)) (dec_le x (smallest (y ∷ ys)))
  where
    go : (k : ℕ) × (k < length (y ∷ ys)) × (get_or (y ∷ ys) k d ≡ smallest (y ∷ ys)) → Dec (x ≤ smallest (y ∷ ys))
        → (k : ℕ) × (k < length (x ∷ y ∷ ys)) × (get_or (x ∷ y ∷ ys) k d ≡ min x (smallest (y ∷ ys)))
    go (k, b, e) (yes l) = (0, omega arith, omega arith)
    go (k, b, e) (no l) = (suc k, omega arith, omega arith)

-- Reference k's second entry.
second_of_lem : (offsets : List (List ℤ)) (k : ℕ) (x : ℤ) → get_or (map first_entry (map other_entries offsets)) k (pos 0) ≡ x → first_entry (other_entries (get_or offsets k [])) ≡ x
second_of_lem offsets k x e = sym (ap first_entry (others_of offsets k)) ∙ sym (first_of_lem (map other_entries offsets) k) ∙ e

-- On rows: the window's entries, counted from the lows.
module _ (rs : List Row) (offsets : List (List ℤ)) (sized : Sized 2 offsets) where
  offset : ℕ → List ℤ
  offset k = get_or offsets k []

  row_low : (k : ℕ) → k < length offsets → le_z (low_row offsets) (first_entry (offset k)) ≡ true
  unfolding offset
  row_low k h = rw (first_of_lem offsets k) at (least_below (map first_entry offsets) k (pos 0) (rw length-map h))

  column_low : (k : ℕ) → k < length offsets → le_z (low_column offsets) (first_entry (other_entries (offset k))) ≡ true
  unfolding offset
  column_low k h =
      rw (first_of_lem (map other_entries offsets) k, others_of offsets k) at
      (least_below (map first_entry (map other_entries offsets)) k (pos 0) (rw (length-map, length-map) h))

  -- The cell that an offset reads in the iteration of row u and column w.
  cell_read : (o : List ℤ) (u w : ℕ) → length o ≡ 2 → le_z (low_row offsets) (first_entry o) ≡ true → le_z (low_column offsets) (first_entry (other_entries o)) ≡ true
      → plus ((pos u -ℤ low_row offsets) ∷ (pos w -ℤ low_column offsets) ∷ []) o ≡ map pos ((rows_down offsets o + u) ∷ (columns_on offsets o + w) ∷ [])
  unfolding plus first_entry other_entries rows_down columns_on
  cell_read [] u w n a b = absurd (omega arith)
  cell_read (x ∷ []) u w n a b = absurd (omega arith)
  cell_read (x ∷ y ∷ z ∷ o) u w n a b = absurd (omega arith)
  cell_read (x ∷ y ∷ []) u w n a b =
      ap₂ (λ (x y : ℤ). x ∷ y ∷ []) (above_sum u x (low_row offsets) a ∙ ap pos (omega arith)) (above_sum w y (low_column offsets) b ∙ ap pos (omega arith))

  -- Column w of row u stays inside with every offset.
  Stays : (u w : ℕ) → Type 0
  Stays u w = (k : ℕ) → k < length offsets → Holds (row_read rs offsets u (offset k)) (columns_on offsets (offset k) + w)

  common_stays : (u w : ℕ) → Holds (common_row rs offsets u) w → Stays u w
  unfolding common_row common_start common_end offset Stays
  common_stays u w h k b =
      let from : List ℤ → ℕ = λ o. (row_read rs offsets u o).start - columns_on offsets o in
      let to : List ℤ → ℕ = λ o. end (row_read rs offsets u o) - columns_on offsets o in
      let f = greatest_above (map from offsets) k (from []) (rw length-map b) in
      let t = smallest_below (map to offsets) k (to []) (rw length-map b) in
      let low = h.from in
      let high = h.below in
      record {
        from = omega (arith, get_or-map from offsets k []);
        below = omega (arith, get_or-map from offsets k [], get_or-map to offsets k []);
      }

  stays_common : 0 < length offsets → (u w : ℕ) → Stays u w → Holds (common_row rs offsets u) w
  unfolding common_row common_start common_end offset Stays
  stays_common some u w s =
      let from : List ℤ → ℕ = λ o. (row_read rs offsets u o).start - columns_on offsets o in
      let to : List ℤ → ℕ = λ o. end (row_read rs offsets u o) - columns_on offsets o in
      let (i, a, e) = greatest_stands (map from offsets) (from []) (rw length-map some) in
      let (j, b, f) = smallest_stands (map to offsets) (to []) (rw length-map some) in
      let low = (s i (rw length-map at a)).from in
      let high = (s j (rw length-map at b)).below in
      let start : greatest (map from offsets) ≤ w = omega (arith, get_or-map from offsets i []) in
      record { from = start; below = omega (arith, get_or-map to offsets j []) }

  -- A row of the course is the common one, where there is one.
  shape_row : (u w : ℕ) → Holds (row (tabulate (length rs) (common_row rs offsets)) u) w → Holds (common_row rs offsets u) w
  shape_row u w h =
      let there : u < length rs = rw length_tabulate at (row_there (tabulate (length rs) (common_row rs offsets)) u w h) in
      rw (get_d_tabulate (length rs) (common_row rs offsets) u no_row there) at h

  row_shape : 0 < length offsets → (u w : ℕ) → Stays u w → Holds (row (tabulate (length rs) (common_row rs offsets)) u) w
  unfolding Stays
  row_shape some u w s =
      let there = row_there rs (rows_down offsets (offset 0) + u) (columns_on offsets (offset 0) + w) (s 0 some) in
      rw (get_d_tabulate (length rs) (common_row rs offsets) u no_row (omega arith)) (stays_common some u w s)

  -- Each listed vector is an iteration.
  pub cell_iteration : (u : List ℕ) → RowCell (tabulate (length rs) (common_row rs offsets)) u
      → is_iteration (skewed rs) offsets (plus (map pos u) (neg_ℤ (low_row offsets) ∷ neg_ℤ (low_column offsets) ∷ [])) ≡ true
  unfolding is_iteration inside plus offset Stays
  cell_iteration [] h = absurd h
  cell_iteration (u ∷ []) h = absurd h
  cell_iteration (u ∷ w ∷ d ∷ v) h = absurd h
  cell_iteration (u ∷ w ∷ []) h =
      let stays = common_stays u w (shape_row u w h) in
      let v = (pos u -ℤ low_row offsets) ∷ (pos w -ℤ low_column offsets) ∷ [] in
      each_all (λ o. inside_rows rs (plus v o)) offsets []
      (λ k b. rw (cell_read (get_or offsets k []) u w (sized k b) (row_low k b) (column_low k b)) (row_cell_inside rs ((rows_down offsets (get_or offsets k []) + u) ∷ (columns_on offsets (get_or offsets k []) + w) ∷ []) (stays k b)))

  -- What a vector that stays inside reads with an offset.
  read_parts : (x y : ℤ) (o : List ℤ) → length o ≡ 2 → inside_rows rs (plus (x ∷ y ∷ []) o) ≡ true
      → ((i : ℕ) × (x +ℤ first_entry o ≡ pos i)) × ((c : ℕ) × (y +ℤ first_entry (other_entries o) ≡ pos c))
  unfolding plus first_entry other_entries
  read_parts x y [] n e = absurd (omega arith)
  read_parts x y (a ∷ []) n e = absurd (omega arith)
  read_parts x y (a ∷ b ∷ d ∷ o) n e = absurd (omega arith)
  read_parts x y (a ∷ b ∷ []) n e = go (inside_row_cell rs ((x +ℤ a) ∷ (y +ℤ b) ∷ []) e)
    where
      go : (u : List ℕ) × (((x +ℤ a) ∷ (y +ℤ b) ∷ []) ≡ map pos u) × RowCell rs u → ((i : ℕ) × (x +ℤ a ≡ pos i)) × ((c : ℕ) × (y +ℤ b ≡ pos c))
      go ([], f, h) = absurd h
      go (i ∷ [], f, h) = absurd h
      go (i ∷ c ∷ d ∷ u, f, h) = absurd h
      go (i ∷ c ∷ [], f, h) = ((i, cc), (c, cc))

  -- An entry that becomes an index when the low is added is that index, counted from the negated low.
  from_low : (x l : ℤ) (i : ℕ) → x +ℤ l ≡ pos i → pos i -ℤ l ≡ x
  from_low x l i e = sym (ap (λ (z : ℤ). z -ℤ l) e) ∙ +ℤ-neg_ℤ_cancel x l

  module _ (some : 0 < length offsets) (x y : ℤ) (each : (k : ℕ) → k < length offsets → inside_rows rs (plus (x ∷ y ∷ []) (get_or offsets k [])) ≡ true) where
    row_index : (u : ℕ) × (pos u -ℤ low_row offsets ≡ x)
    row_index =
        let (k, b, e) = least_stands (map first_entry offsets) (pos 0) (rw length-map some) in
        let c = rw length-map at b in
        let (i, f) = (read_parts x y (get_or offsets k []) (sized k c) (each k c)).0 in
        (i, from_low x (low_row offsets) i (ap (◌+ℤ◌ x) (sym e ∙ first_of_lem offsets k) ∙ f))

    column_index : (w : ℕ) × (pos w -ℤ low_column offsets ≡ y)
    column_index =
        let (k, b, e) = least_stands (map first_entry (map other_entries offsets)) (pos 0) (rw (length-map, length-map) some) in
        let c = rw (length-map, length-map) at b in
        let (i, f) = (read_parts x y (get_or offsets k []) (sized k c) (each k c)).1 in
        (i, from_low y (low_column offsets) i (rw (second_of_lem offsets k (low_column offsets) e) at f))

    all_stay : (u w : ℕ) → pos u -ℤ low_row offsets ≡ x → pos w -ℤ low_column offsets ≡ y → Stays u w
    unfolding Stays offset
    all_stay u w e f k b =
        let o = get_or offsets k [] in
        inside_holds rs (rows_down offsets o + u) (columns_on offsets o + w)
        (sym (ap (inside_rows rs) (ap₂ (λ (x y : ℤ). plus (x ∷ y ∷ []) o) (sym e) (sym f) ∙ cell_read o u w (sized k b) (row_low k b) (column_low k b))) ∙ each k b)

  -- Each iteration is listed.
  pub iteration_cell : 0 < length offsets → (v : List ℤ) → is_iteration (skewed rs) offsets v ≡ true
      → (u : List ℕ) × RowCell (tabulate (length rs) (common_row rs offsets)) u × (plus (map pos u) (neg_ℤ (low_row offsets) ∷ neg_ℤ (low_column offsets) ∷ []) ≡ v)
  unfolding is_iteration inside plus
  iteration_cell some v e =
      let a = (and-eq-true_iff (eqb (length v) 2) (all (λ o. inside_rows rs (plus v o)) offsets)).0 e in
      go v (eqb-true (length v) 2 a.0) (all_each (λ o. inside_rows rs (plus v o)) offsets [] a.1)
    where
      go : (v : List ℤ) → length v ≡ 2 → ((k : ℕ) → k < length offsets → inside_rows rs (plus v (get_or offsets k [])) ≡ true)
          → (u : List ℕ) × RowCell (tabulate (length rs) (common_row rs offsets)) u × (plus (map pos u) (neg_ℤ (low_row offsets) ∷ neg_ℤ (low_column offsets) ∷ []) ≡ v)
      go [] n each = absurd (omega arith)
      go (x ∷ []) n each = absurd (omega arith)
      go (x ∷ y ∷ z ∷ v) n each = absurd (omega arith)
      go (x ∷ y ∷ []) n each =
          let (u, e) = row_index some x y each in
          let (w, f) = column_index some x y each in
          (u ∷ w ∷ [], row_shape some u w (all_stay some x y each u w e f), ap₂ (λ (x y : ℤ). x ∷ y ∷ []) e f)
