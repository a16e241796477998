-- Laws of rows of iterations: by their numbers, and as the model defines them.
use Prim.Native.Nat.{ℕ, zero, suc, ◌+◌, ◌-◌, ◌*◌, ◌≤◌, ◌<◌, min}
use mathlib.Core.Bool.{Bool, true, false, cond}
use mathlib.Core.List.{List, [], ◌∷◌, map}
use mathlib.Core.Path.{◌≡◌, refl, sym, ◌∙◌, ap}
use native.Mathlib.Omega.{arith}
use native.Mathlib.Decide.{dec_lt}
use native.Mathlib.Nat.{le_of_suc-le-suc}
use lib.Dec.{eqb, ltb}
use lib.IntN.{ℤ}
use lib.ListN.{length, get_or, length-map, get_or-map, get_or-eq_default}
use borrow.Author.Tests.{lt-ltb, ltb-false}
use Rattle.model.specs.Lists.{tabulate, sum, greatest, any}
use Rattle.model.specs.Grounds.{Row, row, no_row, end, row_cells, cell_count}
use Rattle.model.specs.Grounds.Ground.{skewed}
use Rattle.model.specs.Courses.{smallest, rows_down, columns_on, row_read, common_start, common_end, common_row, count, all_iterations}
use Rattle.model.specs.Values.{rows_of}
use Rattle.model.specs.Judging.{bad_row, bad_row_count, bad_rows}
use Rattle.grid_laws.proofs.Tests.{neither}
use Rattle.grid_laws.proofs.ListLaws.{get_d_tabulate, tabulate_back, greatest_above, tabulate_same}
use Rattle.grid_laws.proofs.RowIterations.{smallest_below}
use Rattle.geometry.specs.Parts.{number_at}
use Rattle.limits.specs.Lent.{row_of}
use Rattle.rows.specs.Courses.{downs, ons, start_in, end_in, length_in, looked, column_in, row_length}
use Rattle.rows.specs.declared.RowCourse.{RowCourse}
use Rattle.rows.proofs.LentLaws.{row_lent}

-- Where none of some things passes a test, each fails it.
any_none : {A : Type 0} (p : A → Bool) (xs : List A) (d : A) → any p xs ≡ false → (k : ℕ) → k < length xs → p (get_or xs k d) ≡ false
unfolding any
any_none p [] d e k h = absurd (omega arith)
any_none p (x ∷ xs) d e zero h = (neither (p x) (any p xs) e).0
any_none p (x ∷ xs) d e (suc k) h = any_none p xs d (neither (p x) (any p xs) e).1 k (le_of_suc-le-suc h)

-- What 16 lets pass.
pub record Small (r : Row) : Type 0 where
  pub from : r.start ≤ 4095
  pub few : r.length ≤ 1024

pub few_rows : (rs : List Row) → bad_rows rs ≡ false → length rs ≤ 512
unfolding bad_rows bad_row_count
few_rows rs e =
    let (counted, _) = neither (bad_row_count (length rs)) (any bad_row rs) e in
    let (_, many) = neither (eqb (length rs) 0) (ltb 512 (length rs)) counted in
    ltb-false 512 (length rs) many

pub small_rows : (rs : List Row) → bad_rows rs ≡ false → (i : ℕ) → Small (row rs i)
unfolding bad_rows bad_row
small_rows rs e i = go (dec_lt i (length rs))
  where
    small : bad_row (row rs i) ≡ false → Small (row rs i)
    small f =
        let (s, size) = neither (ltb 4095 (row rs i).start) _ f in
        let (_, few) = neither (eqb (row rs i).length 0) (ltb 1024 (row rs i).length) size in
        record { from = ltb-false 4095 (row rs i).start s; few = ltb-false 1024 (row rs i).length few }

    go : Dec (i < length rs) → Small (row rs i)
    go (yes h) =
        let (_, each) = neither (bad_row_count (length rs)) (any bad_row rs) e in
        small (any_none bad_row rs no_row each i h)
    go (no h) = let p : row rs i ≡ no_row = get_or-eq_default rs no_row (omega arith) in rw p (record { from = omega arith; few = omega arith })

-- Rows in a list: their cells one by one.
pub cells_sum : (n : ℕ) (f : ℕ → Row) → row_cells (tabulate n f) ≡ sum (tabulate n (λ i. (f i).length))
unfolding row_cells tabulate sum
cells_sum zero f = refl
cells_sum (suc n) f = ap (◌+◌ (f 0).length) (cells_sum n (λ i. f (suc i)))

pub lent_cells_lem : (count : ℕ) (rows : List ℕ) → bad_rows (rows_of count rows) ≡ false
    → sum (tabulate count (λ i. min (number_at rows (2 * i + 1)) 1024)) ≡ row_cells (rows_of count rows)
unfolding rows_of
lent_cells_lem count rows e =
    ap sum (tabulate_same count (λ i. min (number_at rows (2 * i + 1)) 1024) (λ i. (row_of rows i).length)
    (λ i h. let s = (small_rows (rows_of count rows) e i).few in let l = ap (λ (r : Row). r.length) (row_lent count rows i h) in omega (arith, s, l)))
    ∙ sym (cells_sum count (row_of rows))

-- Reference k's rows down and columns on.
module _ (offsets : List (List ℤ)) (few : length offsets ≤ 32) where
  pub down_is : (k : ℕ) → k < length offsets → number_at (downs offsets) k ≡ rows_down offsets (get_or offsets k [])
  down_is k h = get_d_tabulate 32 (λ k. cond (ltb k (length offsets)) (rows_down offsets (get_or offsets k [])) 0) k 0 (omega arith) ∙ rw (lt-ltb k (length offsets) h)

  pub on_is : (k : ℕ) → k < length offsets → number_at (ons offsets) k ≡ columns_on offsets (get_or offsets k [])
  on_is k h = get_d_tabulate 32 (λ k. cond (ltb k (length offsets)) (columns_on offsets (get_or offsets k [])) 0) k 0 (omega arith) ∙ rw (lt-ltb k (length offsets) h)

  -- Row u of the iterations.
  module _ (rs : List Row) (u : ℕ) where
    pub start_common : start_in rs (downs offsets) (ons offsets) (length offsets) u ≡ common_start rs offsets u
    unfolding start_in common_start
    start_common =
        let from : List ℤ → ℕ = λ o. (row_read rs offsets u o).start - columns_on offsets o in
        ap greatest (tabulate_back (from []) (map from offsets) (length offsets) _ (simp length-map)
        (λ k h. rw (down_is k h, on_is k h) (sym (get_or-map from offsets k []))))

    pub end_common : end_in rs (downs offsets) (ons offsets) (length offsets) u ≡ common_end rs offsets u
    unfolding end_in common_end
    end_common =
        let to : List ℤ → ℕ = λ o. end (row_read rs offsets u o) - columns_on offsets o in
        ap smallest (tabulate_back (to []) (map to offsets) (length offsets) _ (simp length-map)
        (λ k h. rw (down_is k h, on_is k h) (sym (get_or-map to offsets k []))))

-- Of rows that 16 lets pass, and a window with a reference.
module _ (rs : List Row) (offsets : List (List ℤ)) (good : bad_rows rs ≡ false) (some : 0 < length offsets) (u : ℕ) where
  -- A row of iterations is no longer than one of cells, and ends no further on.
  common_short : (common_end rs offsets u - common_start rs offsets u ≤ 1024) × (common_end rs offsets u ≤ 5119)
  unfolding common_start common_end
  common_short =
      let from : List ℤ → ℕ = λ o. (row_read rs offsets u o).start - columns_on offsets o in
      let to : List ℤ → ℕ = λ o. end (row_read rs offsets u o) - columns_on offsets o in
      let o = get_or offsets 0 [] in
      let s = small_rows rs good (rows_down offsets o + u) in
      let a = greatest_above (map from offsets) 0 (from []) (rw length-map some) in
      let b = smallest_below (map to offsets) 0 (to []) (rw length-map some) in
      (omega (arith, s.few, get_or-map from offsets 0 [], get_or-map to offsets 0 []), omega (arith, s.from, s.few, get_or-map to offsets 0 []))

  pub ends_below : common_end rs offsets u ≤ 5119
  ends_below = common_short.1

  pub row_short : (common_row rs offsets u).length ≤ 1024
  unfolding common_row
  row_short = common_short.0

  pub length_common : length offsets ≤ 32 → length_in rs (downs offsets) (ons offsets) (length offsets) u ≡ (common_row rs offsets u).length
  unfolding length_in common_row
  length_common few = rw (start_common offsets few rs u, end_common offsets few rs u) (omega (arith, common_short.0))

-- All iterations.
pub all_count : (rs : List Row) (offsets : List (List ℤ)) → bad_rows rs ≡ false → 0 < length offsets → length offsets ≤ 32
    → sum (tabulate (length rs) (length_in rs (downs offsets) (ons offsets) (length offsets))) ≡ count (all_iterations (skewed rs) offsets)
unfolding count all_iterations cell_count
all_count rs offsets good some few =
    ap sum (tabulate_same (length rs) _ (λ u. (common_row rs offsets u).length) (λ u h. length_common rs offsets good some u few)) ∙ sym (cells_sum (length rs) (common_row rs offsets))

-- A course's row v, with a box and without one.
module _ (rs : List Row) (c : RowCourse) (v : ℕ) where
  pub column_boxed : c.boxed ≡ true → column_in rs c v ≡ c.left
  unfolding column_in
  column_boxed e = ap (λ (t : Bool). cond t c.left (start_in rs c.down c.on (looked c) (c.top + v))) e

  pub column_whole : c.boxed ≡ false → column_in rs c v ≡ start_in rs c.down c.on (looked c) (c.top + v)
  unfolding column_in
  column_whole e = ap (λ (t : Bool). cond t c.left (start_in rs c.down c.on (looked c) (c.top + v))) e

  pub length_boxed : c.boxed ≡ true → row_length rs c v ≡ min c.width 1024
  unfolding row_length
  length_boxed e = ap (λ (t : Bool). cond t (min c.width 1024) (length_in rs c.down c.on (looked c) (c.top + v))) e

  pub length_whole : c.boxed ≡ false → row_length rs c v ≡ length_in rs c.down c.on (looked c) (c.top + v)
  unfolding row_length
  length_whole e = ap (λ (t : Bool). cond t (min c.width 1024) (length_in rs c.down c.on (looked c) (c.top + v))) e
