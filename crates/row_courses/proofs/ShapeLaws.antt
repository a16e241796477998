-- The course of a run on rows, row by row: its shape, its vectors, and what is read there.
use Prim.Native.Nat.{ℕ, ◌+◌, ◌-◌, ◌≤◌, ◌<◌}
use mathlib.Core.Bool.{true, false}
use mathlib.Core.List.{List, [], ◌∷◌, map}
use mathlib.Core.Path.{◌≡◌, refl, sym, ◌∙◌, ap, ap₂}
use native.Mathlib.Omega.{arith}
use lib.IntN.{ℤ, pos, neg_ℤ, ◌+ℤ◌, ◌-ℤ◌, +ℤ_assoc, pos-+ℤ-pos}
use lib.ListN.{length, get_or, length-map, get_or-map}
use lib.Signed.{le_z}
use Rattle.model.specs.Lists.{tabulate}
use Rattle.model.specs.Vectors.{above, plus}
use Rattle.model.specs.Geometry.{first_entry, other_entries, natural}
use Rattle.model.specs.Sized.{Sized, Bounded}
use Rattle.model.specs.Grounds.{Row, row, no_row, end, cells_above, row_place, cell_place, cell_at, position}
use Rattle.model.specs.Grounds.Ground.{skewed}
use Rattle.model.specs.Courses.{low_row, low_column, rows_down, columns_on, row_read, common_start, common_end, common_row, vector, all_iterations}
use Rattle.model.specs.Boxes.{Part, index_count, widths, equal_rows, box_shape, box_course, course, bad_box}
use Rattle.model.specs.Boxes.Part.{whole, box}
use Rattle.model.specs.Judging.{bad_rows}
use Rattle.grid_laws.proofs.ListLaws.{get_d_tabulate, greatest_above}
use Rattle.grid_laws.proofs.IntegerLaws.{least_below, above_sum, above_back, above_chain}
use Rattle.grid_laws.proofs.WindowLaws.{first_of_lem, others_of}
use Rattle.grid_laws.proofs.BoxLaws.{index_count_lem}
use Rattle.grid_laws.proofs.RowIterations.{smallest_below}
use Rattle.grid_laws.proofs.RowLaws.{Holds}
use Rattle.grid_laws.proofs.GroundLaws.{cell_at_place}
use Rattle.rows.specs.Courses.{start_in, length_in, downs, ons, whole_course, box_on, course_for, column_in, row_length}
use Rattle.rows.specs.declared.RowCourse.{RowCourse}
use Rattle.rows.proofs.CommonLaws.{start_common, length_common, row_short, column_boxed, column_whole, length_boxed, length_whole}
use Rattle.rows.proofs.PlacedLaws.{Fits, box_fits}

-- What an offset reads in the iteration of row u and column w.
module _ (rs : List Row) (offsets : List (List ℤ)) (sized : Sized 2 offsets) where
  cell_read : (o : List ℤ) (u w : ℕ) → length o ≡ 2 → le_z (low_row offsets) (first_entry o) ≡ true → le_z (low_column offsets) (first_entry (other_entries o)) ≡ true
      → plus ((pos u -ℤ low_row offsets) ∷ (pos w -ℤ low_column offsets) ∷ []) o ≡ map pos ((rows_down offsets o + u) ∷ (columns_on offsets o + w) ∷ [])
  unfolding plus first_entry other_entries rows_down columns_on
  cell_read [] u w n a b = absurd (omega arith)
  cell_read (x ∷ []) u w n a b = absurd (omega arith)
  cell_read (x ∷ y ∷ z ∷ o) u w n a b = absurd (omega arith)
  cell_read (x ∷ y ∷ []) u w n a b =
      ap₂ (λ (x y : ℤ). x ∷ y ∷ []) (above_sum u x (low_row offsets) a ∙ ap pos (omega arith)) (above_sum w y (low_column offsets) b ∙ ap pos (omega arith))

  pub place_read : (k u w : ℕ) → k < length offsets →
      let o = get_or offsets k [] in
      let i = rows_down offsets o + u in
      position (skewed rs) (plus ((pos u -ℤ low_row offsets) ∷ (pos w -ℤ low_column offsets) ∷ []) o) ≡ cells_above rs i + (columns_on offsets o + w - (row rs i).start)
  unfolding position cell_place row_place natural
  place_read k u w h =
      let o = get_or offsets k [] in
      let a = rw (first_of_lem offsets k) at (least_below (map first_entry offsets) k (pos 0) (rw length-map h)) in
      let b = rw (first_of_lem (map other_entries offsets) k, others_of offsets k) at (least_below (map first_entry (map other_entries offsets)) k (pos 0) (rw (length-map, length-map) h)) in
      ap (λ (v : List ℤ). cell_place (skewed rs) (map natural v)) (cell_read o u w (sized k h) a b)

  -- In a column of the common row no reference reads before the start of its row.
  pub starts_before : (k u w : ℕ) → k < length offsets → Holds (common_row rs offsets u) w → (row_read rs offsets u (get_or offsets k [])).start ≤ columns_on offsets (get_or offsets k []) + w
  unfolding common_row common_start
  starts_before k u w h r =
      let from : List ℤ → ℕ = λ o. (row_read rs offsets u o).start - columns_on offsets o in
      omega (arith, r.from, greatest_above (map from offsets) k (from []) (rw length-map h), get_or-map from offsets k [])

  pub ends_behind : (k u w : ℕ) → k < length offsets → Holds (common_row rs offsets u) w → columns_on offsets (get_or offsets k []) + w < end (row_read rs offsets u (get_or offsets k []))
  unfolding common_row common_start common_end
  ends_behind k u w h r =
      let to : List ℤ → ℕ = λ o. end (row_read rs offsets u o) - columns_on offsets o in
      omega (arith, r.from, r.below, smallest_below (map to offsets) k (to []) (rw length-map h), get_or-map to offsets k [])

-- A number that is at least m, counted from m.
counted : (v : ℕ) (x m : ℤ) → le_z m x ≡ true → pos v +ℤ x ≡ pos (above x m + v) +ℤ m
counted v x m h =
    ap (◌+ℤ◌ (pos v)) (sym (above_back x m h)) ∙ sym (+ℤ_assoc (pos v) (pos (above x m)) m) ∙ ap (λ (z : ℤ). z +ℤ m) (pos-+ℤ-pos v (above x m) ∙ ap pos (omega arith))

-- The rows of a course's shape.
abbrev pub shape_row : List Row → List (List ℤ) → Part → ℕ → Row
shape_row rs offsets whole v = common_row rs offsets v
shape_row rs offsets (box l h) v = record { start = 0; length = index_count (first_entry (other_entries l)) (first_entry (other_entries h)) }

abbrev pub shape_rows : List Row → List (List ℤ) → Part → List Row
shape_rows rs offsets p = tabulate (course_for (length rs) offsets p).height (shape_row rs offsets p)

pub shape_is : (rs : List Row) (offsets : List (List ℤ)) (p : Part) → Bounded 2 p → (course (skewed rs) offsets p).shape ≡ skewed (shape_rows rs offsets p)
unfolding course all_iterations box_course box_shape widths equal_rows whole_course box_on first_entry other_entries
shape_is rs offsets whole b = refl
shape_is rs offsets (box (l ∷ k ∷ []) (h ∷ i ∷ [])) b = refl
shape_is rs offsets (box [] h) b = absurd (omega (arith, b.0))
shape_is rs offsets (box (k ∷ []) h) b = absurd (omega (arith, b.0))
shape_is rs offsets (box (k ∷ l ∷ j ∷ ls) h) b = absurd (omega (arith, b.0))
shape_is rs offsets (box (k ∷ l ∷ []) []) b = absurd (omega (arith, b.1))
shape_is rs offsets (box (k ∷ l ∷ []) (h ∷ [])) b = absurd (omega (arith, b.1))
shape_is rs offsets (box (k ∷ l ∷ []) (h ∷ i ∷ j ∷ hs)) b = absurd (omega (arith, b.1))

-- What holds of row v of a course, which has iterations.
pub record Row-of (rs : List Row) (offsets : List (List ℤ)) (p : Part) (c : RowCourse) (v : ℕ) : Type 0 where
  pub size : row_length rs c v ≡ (shape_row rs offsets p v).length
  pub few : c.height ≤ length rs
  pub holds : (i : ℕ) → v < c.height → i < row_length rs c v → Holds (common_row rs offsets (c.top + v)) (column_in rs c v + i)
  pub vectors : (i : ℕ) → v < c.height → i < row_length rs c v → vector (course (skewed rs) offsets p) (cells_above (shape_rows rs offsets p) v + i)
      ≡ (pos (c.top + v) -ℤ low_row offsets) ∷ (pos (column_in rs c v + i) -ℤ low_column offsets) ∷ []

-- The cell behind i others in row v.
cell_behind : (ss : List Row) (v i : ℕ) → i < (row ss v).length → cell_at (skewed ss) (cells_above ss v + i) ≡ v ∷ ((row ss v).start + i) ∷ []
unfolding cell_place row_place
cell_behind ss v i h =
    ap (cell_at (skewed ss)) (omega arith) ∙ cell_at_place (skewed ss) (v ∷ ((row ss v).start + i) ∷ []) (record { from = omega arith; below = omega arith })

module _ (rs : List Row) (offsets : List (List ℤ)) (sized : Sized 2 offsets) (good : bad_rows rs ≡ false) (some : 0 < length offsets) (few : length offsets ≤ 32) (v : ℕ) where
  abbrev all : RowCourse
  all = whole_course (length rs) offsets

  whole_column : column_in rs all v ≡ common_start rs offsets v
  unfolding whole_course
  whole_column =
      column_whole rs all v refl
      ∙ ap₂ (λ (n u : ℕ). start_in rs (downs offsets) (ons offsets) n u) (omega arith) (omega arith)
      ∙ start_common offsets few rs v

  whole_length : row_length rs all v ≡ (common_row rs offsets v).length
  unfolding whole_course
  whole_length =
      length_whole rs all v refl
      ∙ ap₂ (λ (n u : ℕ). length_in rs (downs offsets) (ons offsets) n u) (omega arith) (omega arith)
      ∙ length_common rs offsets good some v few

  whole_row : Row-of rs offsets whole all v
  unfolding whole_course common_row course all_iterations vector plus
  whole_row = record {
    size = whole_length;
    few = omega arith;
    holds = λ i h b.
        let e : 0 + v ≡ v = omega arith in
        rw (e, whole_column) (record { from = omega arith; below = omega (arith, whole_length) });
    vectors = λ i h b.
        let r = get_d_tabulate (length rs) (common_row rs offsets) v no_row h in
        let c = cell_behind (shape_rows rs offsets whole) v i (omega (arith, ap (λ (r : Row). r.length) r, whole_length)) in
        let start : (row (shape_rows rs offsets whole) v).start ≡ column_in rs all v = ap (λ (r : Row). r.start) r ∙ sym whole_column in
        ap (λ (u : List ℕ). plus (map pos u) (neg_ℤ (low_row offsets) ∷ neg_ℤ (low_column offsets) ∷ [])) c
        ∙ ap₂ (λ (u w : ℕ). (pos u -ℤ low_row offsets) ∷ (pos w -ℤ low_column offsets) ∷ []) (omega arith) (omega (arith, start));
  }

  -- Of a box.
  module _ (l k h i : ℤ) (f : Fits rs offsets sized l k h i) where
    abbrev boxed : RowCourse
    boxed = box_on offsets (l ∷ k ∷ []) (h ∷ i ∷ [])

    -- The last row and the last column, counted from the first.
    tall : above h (neg_ℤ (low_row offsets)) + 1 ≡ above l (neg_ℤ (low_row offsets)) + index_count l h
    tall = omega (arith, above_chain h l (neg_ℤ (low_row offsets)) f.down f.tall, index_count_lem l h f.tall)

    broad : above i (neg_ℤ (low_column offsets)) + 1 ≡ above k (neg_ℤ (low_column offsets)) + index_count k i
    broad = omega (arith, above_chain i k (neg_ℤ (low_column offsets)) f.on f.broad, index_count_lem k i f.broad)

    some_row : 0 < index_count l h
    some_row = omega (arith, index_count_lem l h f.tall)

    box_column : column_in rs boxed v ≡ above k (neg_ℤ (low_column offsets))
    unfolding box_on first_entry other_entries
    box_column = column_boxed rs boxed v refl

    box_length : row_length rs boxed v ≡ index_count k i
    unfolding box_on first_entry other_entries common_row
    box_length =
        let u = above l (neg_ℤ (low_row offsets)) in
        let (from, to) = f.each u (omega arith) (omega (arith, tall, some_row)) in
        length_boxed rs boxed v refl ∙ omega (arith, row_short rs offsets good some u, broad)

    box_row_lem : Row-of rs offsets (box (l ∷ k ∷ []) (h ∷ i ∷ [])) boxed v
    unfolding box_on first_entry other_entries common_row course box_course box_shape widths equal_rows vector plus
    box_row_lem = record {
      size = box_length;
      few = omega (arith, tall, f.last);
      holds = λ j a b.
          let u = above l (neg_ℤ (low_row offsets)) + v in
          let (from, to) = f.each u (omega arith) (omega (arith, tall)) in
          rw box_column (record { from = omega arith; below = omega (arith, box_length, broad) });
      vectors = λ j a b.
          let r = get_d_tabulate (index_count l h) (shape_row rs offsets (box (l ∷ k ∷ []) (h ∷ i ∷ []))) v no_row a in
          let c = cell_behind (shape_rows rs offsets (box (l ∷ k ∷ []) (h ∷ i ∷ []))) v j (omega (arith, ap (λ (r : Row). r.length) r, box_length)) in
          let start : (row (shape_rows rs offsets (box (l ∷ k ∷ []) (h ∷ i ∷ []))) v).start ≡ 0 = ap (λ (r : Row). r.start) r in
          ap (λ (u : List ℕ). plus (map pos u) (l ∷ k ∷ [])) c
          ∙ ap₂ (λ (x y : ℤ). x ∷ y ∷ []) (counted v l (neg_ℤ (low_row offsets)) f.down)
          (ap (λ (n : ℕ). pos n +ℤ k) (omega (arith, start)) ∙ counted j k (neg_ℤ (low_column offsets)) f.on ∙ ap (λ (n : ℕ). pos n +ℤ neg_ℤ (low_column offsets)) (omega (arith, box_column)));
    }

-- What a course's row is, with a box or without one.
pub course_row : (rs : List Row) (offsets : List (List ℤ)) → Sized 2 offsets → bad_rows rs ≡ false → 0 < length offsets → length offsets ≤ 32 → (v : ℕ)
    → (p : Part) → Bounded 2 p → bad_box (skewed rs) offsets p ≡ false → Row-of rs offsets p (course_for (length rs) offsets p) v
course_row rs offsets sized good some few v whole b e = whole_row rs offsets sized good some few v
course_row rs offsets sized good some few v (box (l ∷ k ∷ []) (h ∷ i ∷ [])) b e = box_row_lem rs offsets sized good some few v l k h i (box_fits rs offsets sized l k h i good some e)
course_row rs offsets sized good some few v (box [] h) b e = absurd (omega (arith, b.0))
course_row rs offsets sized good some few v (box (k ∷ []) h) b e = absurd (omega (arith, b.0))
course_row rs offsets sized good some few v (box (k ∷ l ∷ j ∷ ls) h) b e = absurd (omega (arith, b.0))
course_row rs offsets sized good some few v (box (k ∷ l ∷ []) []) b e = absurd (omega (arith, b.1))
course_row rs offsets sized good some few v (box (k ∷ l ∷ []) (h ∷ [])) b e = absurd (omega (arith, b.1))
course_row rs offsets sized good some few v (box (k ∷ l ∷ []) (h ∷ i ∷ j ∷ hs)) b e = absurd (omega (arith, b.1))

-- How far its references lie down and on.
pub record Table (n : ℕ) (offsets : List (List ℤ)) (c : RowCourse) : Type 0 where
  pub down : c.down ≡ downs offsets
  pub on : c.on ≡ ons offsets
  pub references : c.references ≡ length offsets

pub course_table : (n : ℕ) (offsets : List (List ℤ)) (p : Part) → Table n offsets (course_for n offsets p)
unfolding whole_course box_on
course_table n offsets whole = record { down = refl; on = refl; references = refl }
course_table n offsets (box l h) = record { down = refl; on = refl; references = refl }
