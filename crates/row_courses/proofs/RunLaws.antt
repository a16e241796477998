-- A run on rows that a survey accepts: what the tables of its course say.
use Prim.Native.Nat.{ℕ, zero, suc, ◌+◌, ◌-◌, ◌≤◌, ◌<◌, min}
use mathlib.Core.Bool.{Bool, true, false, cond}
use mathlib.Core.List.{List, [], ◌∷◌, map}
use mathlib.Core.Path.{◌≡◌, refl, sym, ◌∙◌, ap, ap₂, subst}
use native.Mathlib.Omega.{arith}
use native.Mathlib.Numerals.{add-one}
use lib.Dec.{eqb}
use lib.IntN.{ℤ, pos}
use lib.ListN.{length, get_or}
use borrow.Author.Tests.{eqb-true, eqb-false}
use Rattle.model.specs.Lists.{tabulate, greatest}
use Rattle.model.specs.Vectors.{plus}
use Rattle.model.specs.Sized.{Bounded, Fitting}
use Rattle.model.specs.Grounds.{Row, Ground, row, no_row, cells_above, row_cells, cell_count, position}
use Rattle.model.specs.Grounds.Ground.{skewed}
use Rattle.model.specs.Courses.{rows_down, columns_on, common_row, count as counted, vector}
use Rattle.model.specs.Boxes.{course}
use Rattle.model.specs.Boxes.Part.{whole, box}
use Rattle.model.specs.Values.{rows_of, offsets_of, part_of, on_rows}
use Rattle.model.specs.Answers.{by_verdict, verdict_of}
use Rattle.model.specs.Iterations.{firsts, position_of, course_of, iterations_of, iteration_of, reads_of, distance_in, distance_of}
use Rattle.model.specs.declared.Bounds.{Bounds}
use Rattle.model.specs.declared.Window.{Window}
use Rattle.grid_laws.proofs.ListLaws.{length_tabulate, get_d_tabulate, tabulate_same}
use Rattle.grid_laws.proofs.ChainLaws.{offsets_count, rows_count}
use Rattle.grid_laws.proofs.CheckLaws.{WindowPasses, window_passes, some_references, few_references}
use Rattle.grid_laws.proofs.RowLaws.{Holds, row_there, above_all}
use Rattle.grid_laws.proofs.Iterations.{few_cells, below_cells}
use Rattle.model.specs.declared.Refusal.{Refusal}
use Rattle.std.specs.Prelude.{Err}
use Rattle.geometry.specs.Parts.{number_at, Filled}
use Rattle.rows.specs.Courses.{course_for, looked, column_in, row_length}
use Rattle.rows.specs.Surveys.{row_survey_of, Surveyed}
use Rattle.rows.proofs.SurveyLaws.{survey_verdict}
use Rattle.rows.specs.declared.RowCourse.{RowCourse}
use Rattle.rows.proofs.WindowLaws.{two_sized}
use Rattle.rows.proofs.CommonLaws.{down_is, on_is, ends_below, few_rows}
use Rattle.row_courses.specs.CourseTables.{above_count, lengths_above, entry_of, read_at, LiesIn, distance_at, AllNear, distance_count}
use Rattle.row_courses.proofs.TableLaws.{above_good, above_next, lengths_next, entry_there}
use Rattle.row_courses.proofs.DistanceLaws.{distance_none, distance_some, firsts_greatest}
use Rattle.row_courses.proofs.ShapeLaws.{place_read, starts_before, ends_behind, shape_row, shape_rows, shape_is, Row-of, course_row, Table, course_table}

-- Bounds on rows are of two dimensions.
pub two_bounded : (b : Bounds) → Bounded 2 (part_of 2 b)
unfolding part_of
two_bounded b = go b.stood
  where
    go : (t : Bool) → Bounded 2 (cond t (box (tabulate 2 (λ d. get_or b.lowest d (pos 0))) (tabulate 2 (λ d. get_or b.highest d (pos 0)))) whole)
    go true = (length_tabulate 2 _, length_tabulate 2 _)
    go false = tt

-- All cells lie above the row behind the last.
all_above : (rs : List Row) → row_cells rs ≡ cells_above rs (length rs)
unfolding row_cells cells_above
all_above [] = refl
all_above (r ∷ rs) = ap (◌+◌ r.length) (all_above rs)

module _ (count : ℕ) (rows : List ℕ) (w : Window) (b : Bounds) (c : RowCourse) (s : Surveyed count rows w b c) where
  abbrev rs : List Row
  rs = rows_of count rows

  abbrev offsets : List (List ℤ)
  offsets = offsets_of 2 w

  passes : WindowPasses (on_rows count rows w b)
  passes = window_passes (on_rows count rows w b) s.accepted

  some : 0 < length offsets
  some = omega (arith, offsets_count 2 w, some_references w.count passes.count)

  pub few : length offsets ≤ 32
  few = omega (arith, offsets_count 2 w, few_references w.count passes.count)

  reference : (k : ℕ) → k < w.count → k < length offsets
  reference k h = omega (arith, offsets_count 2 w)

  course_is : course_for (length rs) offsets (part_of 2 b) ≡ c
  course_is = ap (λ (n : ℕ). course_for n offsets (part_of 2 b)) (rows_count count rows) ∙ sym s.course

  pub row_of : (v : ℕ) → Row-of rs offsets (part_of 2 b) c v
  row_of v =
      subst (λ (c : RowCourse). Row-of rs offsets (part_of 2 b) c v) course_is
      (course_row rs offsets (two_sized w) passes.grid some few v (part_of 2 b) (two_bounded b) passes.fits)

  table : Table (length rs) offsets c
  table = subst (λ (c : RowCourse). Table (length rs) offsets c) course_is (course_table (length rs) offsets (part_of 2 b))

  pub references_are : c.references ≡ w.count
  references_are = table.references ∙ offsets_count 2 w

  pub few_rows_in : c.height ≤ 512
  few_rows_in = omega (arith, (row_of 0).few, few_rows rs passes.grid)

  -- The rows of the course's shape, and how many iterations lie above them.
  abbrev pub crs : List Row
  crs = shape_rows rs offsets (part_of 2 b)

  height_is : (course_for (length rs) offsets (part_of 2 b)).height ≡ c.height
  height_is = ap (λ (c : RowCourse). c.height) course_is

  pub shape_rows_lem : (course_of (on_rows count rows w b)).shape ≡ skewed crs
  unfolding course_of
  shape_rows_lem = shape_is rs offsets (part_of 2 b) (two_bounded b)

  pub shape_count : length crs ≡ c.height
  shape_count = length_tabulate _ (shape_row rs offsets (part_of 2 b)) ∙ height_is

  pub shape_length : (v : ℕ) → v < c.height → (row crs v).length ≡ row_length rs c v
  shape_length v h =
      ap (λ (r : Row). r.length) (get_d_tabulate _ (shape_row rs offsets (part_of 2 b)) v no_row (omega (arith, height_is))) ∙ sym (row_of v).size

  pub shape_above : (v : ℕ) → v ≤ c.height → cells_above crs v ≡ lengths_above (row_length rs c) v
  unfolding lengths_above cells_above
  shape_above zero h = refl
  shape_above (suc v) h =
      ap (cells_above crs) (sym (add-one v)) ∙ sym (above_next crs v) ∙ ap₂ ◌+◌ (shape_above v (omega arith)) (shape_length v h)

  pub iterations_are : iterations_of (on_rows count rows w b) ≡ lengths_above (row_length rs c) c.height
  unfolding iterations_of counted cell_count
  iterations_are = ap cell_count shape_rows_lem ∙ all_above crs ∙ ap (cells_above crs) shape_count ∙ shape_above c.height (omega arith)

  -- What is read in iteration i of row v.
  module _ (v i : ℕ) (h : v < c.height) (j : i < row_length rs c v) where
    holds : Holds (common_row rs offsets (c.top + v)) (column_in rs c v + i)
    holds = (row_of v).holds i h j

    column_small : column_in rs c v ≤ 8192
    unfolding common_row
    column_small = omega (arith, holds.from, holds.below, ends_below rs offsets passes.grid some (c.top + v))

    module _ (above : List ℕ) (a : (i : ℕ) → i ≤ count → number_at above i ≡ cells_above rs i) (k : ℕ) (l : k < w.count) where
      pub reads_row : reads_of (on_rows count rows w b) (lengths_above (row_length rs c) v + i) k ≡ read_at rs above c v k + i
      unfolding reads_of position_of iteration_of course_of read_at
      reads_row =
          let o = get_or offsets k [] in
          let m = reference k l in
          let r = rows_down offsets o + (c.top + v) in
          let from = starts_before rs offsets (two_sized w) k (c.top + v) (column_in rs c v + 0) m ((row_of v).holds 0 h (omega arith)) in
          let behind = ends_behind rs offsets (two_sized w) k (c.top + v) (column_in rs c v + 0) m ((row_of v).holds 0 h (omega arith)) in
          let there = row_there rs r (columns_on offsets o + (column_in rs c v + 0)) (record { from = from; below = behind }) in
          let down : number_at c.down k ≡ rows_down offsets o = ap (λ (xs : List ℕ). number_at xs k) table.down ∙ down_is offsets few k m in
          let on : number_at c.on k ≡ columns_on offsets o = ap (λ (xs : List ℕ). number_at xs k) table.on ∙ on_is offsets few k m in
          let bound : r < count = omega (arith, there, rows_count count rows) in
          let cells : entry_of above r ≡ cells_above rs r = sym (entry_there above r (omega (arith, bound, few_rows rs passes.grid, rows_count count rows))) ∙ a r (omega arith) in
          ap (λ (j : ℕ). position (skewed rs) (plus (vector (course (skewed rs) offsets (part_of 2 b)) j) o)) (ap (λ (n : ℕ). n + i) (sym (shape_above v (omega arith))))
          ∙ ap (λ (z : List ℤ). position (skewed rs) (plus z o)) ((row_of v).vectors i h j)
          ∙ place_read rs offsets (two_sized w) k (c.top + v) (column_in rs c v + i) m
          ∙ sym (
          ap₂ (λ (d e : ℕ). entry_of above (d + (c.top + v)) + (e + min (column_in rs c v) 8192 - (row rs (d + (c.top + v))).start) + i) down on
          ∙ omega (arith, cells, from, column_small)
          )

  -- Iteration j of the row that it lies in.
  pub in_row : (above : List ℕ) → ((v : ℕ) → v ≤ c.height → number_at above v ≡ lengths_above (row_length rs c) v) → (j v : ℕ) → LiesIn above c.height j v
      → (lengths_above (row_length rs c) v + (j - lengths_above (row_length rs c) v) ≡ j) × (j - lengths_above (row_length rs c) v < row_length rs c v)
  in_row above a j v r =
      let here = a v (omega (arith, r.below)) in
      let next = a (v + 1) (omega (arith, r.below)) in
      (omega (arith, r.from), omega (arith, r.from, r.to, lengths_next (row_length rs c) v))

  pub looked_is : looked c ≡ w.count
  looked_is = omega (arith, references_are, few_references w.count passes.count)

  -- A row's iterations are among all.
  pub row_below : (v : ℕ) → v < c.height → lengths_above (row_length rs c) v + row_length rs c v ≤ iterations_of (on_rows count rows w b)
  row_below v h =
      omega (arith, iterations_are, all_above crs, shape_count, ap (cells_above crs) shape_count, shape_above c.height (omega arith), shape_above v (omega arith), shape_length v h, above_all crs v)

  fitting : Fitting (on_rows count rows w b)
  fitting = record {
    references = offsets_count 2 w;
    suits = record { some = some; entries = two_sized w; bounded = two_bounded b; fits = passes.fits };
  }

  module _ (above : List ℕ) (a : (i : ℕ) → i ≤ count → number_at above i ≡ cells_above rs i) where
    -- What is read in the first iteration of a row is a cell's position.
    pub all_near : AllNear rs above c
    all_near v h some k l =
        let m : k < w.count = omega (arith, looked_is) in
        omega (
          arith,
          reads_row v 0 h some above a k m,
          below_cells (on_rows count rows w b) fitting (lengths_above (row_length rs c) v + 0) k (omega (arith, row_below v h)) m,
          few_cells (on_rows count rows w b) passes.grid,
        )

    -- The distances.
    row_distance : (k v : ℕ) → k + 1 < w.count → v < c.height
        → cond (eqb (row crs v).length 0) 0 (distance_in (on_rows count rows w b) (0 + cells_above crs v) k) ≡ distance_at rs above c k v
    unfolding distance_in
    row_distance k v l h = go (eqb (row_length rs c v) 0) refl
      where
        at : (i : ℕ) → i < w.count → 0 < row_length rs c v → reads_of (on_rows count rows w b) (0 + cells_above crs v) i ≡ read_at rs above c v i
        at i m some =
            ap (λ (j : ℕ). reads_of (on_rows count rows w b) j i) (omega (arith, shape_above v (omega arith))) ∙ reads_row v 0 h some above a i m ∙ omega arith

        go : (t : Bool) → eqb (row_length rs c v) 0 ≡ t
            → cond (eqb (row crs v).length 0) 0 (distance_in (on_rows count rows w b) (0 + cells_above crs v) k) ≡ distance_at rs above c k v
        go true e = rw (shape_length v h, e) (sym (distance_none rs above c v k (eqb-true (row_length rs c v) 0 e)))
        go false e =
            let none = eqb-false (row_length rs c v) 0 e in
            rw (shape_length v h, e) (ap₂ ◌-◌ (at k (omega arith) (omega arith)) (ap (reads_of (on_rows count rows w b) (0 + cells_above crs v)) (sym (add-one k)) ∙ at (k + 1) l (omega arith))
            ∙ sym (distance_some rs above c v k none))

    pub distances_are : (k : ℕ) → k < w.count - 1 → greatest (tabulate c.height (distance_at rs above c k)) ≡ distance_of (on_rows count rows w b) k
    unfolding distance_of firsts
    distances_are k l =
        let t = on_rows count rows w b in
        sym (
        ap (λ (g : Ground). greatest (map (λ j. distance_in t j k) (firsts g))) shape_rows_lem
        ∙ firsts_greatest (λ j. distance_in t j k) 0 crs
        ∙ ap greatest (tabulate_same (length crs) _ (distance_at rs above c k) (λ v h. row_distance k v (omega arith) (omega (arith, shape_count)))
        ∙ ap (λ (n : ℕ). tabulate n (distance_at rs above c k)) shape_count)
        )

  -- The tables, as they are filled.
  pub cells_table : (xs : List ℕ) → Filled 513 0 (cells_above rs) (above_count count rows) xs → (i : ℕ) → i ≤ count → number_at xs i ≡ cells_above rs i
  cells_table xs f i h = f.done i (omega (arith, above_good count rows passes.grid))

  pub iterations_table : (xs : List ℕ) → Filled 513 0 (lengths_above (row_length rs c)) (min c.height 512 + 1) xs → (v : ℕ) → v ≤ c.height → number_at xs v ≡ lengths_above (row_length rs c) v
  iterations_table xs f v h = f.done v (omega (arith, few_rows_in))

  pub distances_count : looked c - 1 ≡ distance_count count rows w b
  distances_count = omega (arith, looked_is) ∙ sym (ap (λ v. by_verdict v (w.count - 1) (λ _. 0)) s.accepted)

-- Where the survey refuses, there are none.
pub none_refused : (count : ℕ) (rows : List ℕ) (w : Window) (b : Bounds) (x : Refusal) → row_survey_of count rows w b ≡ Err x → 0 ≡ distance_count count rows w b
none_refused count rows w b x r =
    sym (ap (λ v. by_verdict v (w.count - 1) (λ _. 0)) (sym (survey_verdict count rows w b) ∙ ap verdict_of r))
