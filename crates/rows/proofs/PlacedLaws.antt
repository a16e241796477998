-- A box on rows: 15, by the box's rows.
use Prim.Native.Nat.{ℕ, ◌≤◌, ◌<◌}
use mathlib.Core.Bool.{true, false, ◌&&◌, ◌||◌, false≢true, and-eq-true_iff}
use mathlib.Core.List.{List, [], ◌∷◌, map}
use mathlib.Core.Path.{◌≡◌, refl, sym, ◌∙◌, ap}
use native.Mathlib.Omega.{arith}
use lib.IntN.{ℤ, pos, neg_ℤ, ◌+ℤ◌}
use lib.ListN.{length}
use lib.Signed.{lt_z, le_z}
use borrow.Author.Tests.{le-ltb}
use Rattle.model.specs.Lists.{tabulate}
use Rattle.model.specs.Vectors.{above, plus}
use Rattle.model.specs.Sized.{Sized}
use Rattle.model.specs.Grounds.{Row, no_row, is_iteration}
use Rattle.model.specs.Grounds.Ground.{skewed}
use Rattle.model.specs.Courses.{low_row, low_column, common_start, common_end, common_row}
use Rattle.model.specs.Boxes.{between, crossed, bad_box}
use Rattle.model.specs.Boxes.Part.{box}
use Rattle.model.specs.Judging.{bad_rows}
use Rattle.grid_laws.proofs.ListLaws.{length_tabulate, get_d_tabulate}
use Rattle.grid_laws.proofs.IntegerLaws.{le_z_refl, le_z_trans, not_lt_z, le_z_lt_z, above_back, above_order, above_chain, sum_above, sum_at_least}
use Rattle.grid_laws.proofs.RowLaws.{Holds, RowCell, row_there}
use Rattle.grid_laws.proofs.RowIterations.{cell_iteration, iteration_cell}
use Rattle.grid_laws.proofs.BoxLaws.{not_crossed, lowest_between, highest_between, each_of_box}
use Rattle.rows.proofs.CommonLaws.{ends_below}

-- Counted from a number, order is that of natural numbers.
pub le_z_by_above : (x y m : ℤ) → le_z m x ≡ true → le_z m y ≡ true → above x m ≤ above y m → le_z x y ≡ true
le_z_by_above x y m p q h = not_lt_z y x (above_order y x m q p ∙ le-ltb (above y m) (above x m) h)

module _ (rs : List Row) (offsets : List (List ℤ)) (sized : Sized 2 offsets) where
  abbrev topmost : ℤ
  topmost = neg_ℤ (low_row offsets)

  abbrev leftmost : ℤ
  leftmost = neg_ℤ (low_column offsets)

  -- An iteration by its row and column, counted from the lows.
  pub record At (x y : ℤ) : Type 0 where
    pub down : le_z topmost x ≡ true
    pub on : le_z leftmost y ≡ true
    pub there : above x topmost < length rs
    pub holds : Holds (common_row rs offsets (above x topmost)) (above y leftmost)

  pub iteration_at : 0 < length offsets → (x y : ℤ) → is_iteration (skewed rs) offsets (x ∷ y ∷ []) ≡ true → At x y
  unfolding plus
  iteration_at some x y e = go (iteration_cell rs offsets sized some (x ∷ y ∷ []) e)
    where
      go : (u : List ℕ) × RowCell (tabulate (length rs) (common_row rs offsets)) u × (plus (map pos u) (topmost ∷ leftmost ∷ []) ≡ x ∷ y ∷ []) → At x y
      go ([], h, f) = absurd h
      go (i ∷ [], h, f) = absurd h
      go (i ∷ c ∷ b ∷ u, h, f) = absurd h
      go (i ∷ c ∷ [], h, f) =
          let a : pos i +ℤ topmost ≡ x = cc in
          let b : pos c +ℤ leftmost ≡ y = cc in
          let there : i < length rs = rw length_tabulate at (row_there (tabulate (length rs) (common_row rs offsets)) i c h) in
          let down : above x topmost ≡ i = sym (ap (λ (z : ℤ). above z topmost) a) ∙ sum_above i topmost in
          let on : above y leftmost ≡ c = sym (ap (λ (z : ℤ). above z leftmost) b) ∙ sum_above c leftmost in
          record {
            down = rw a at (sum_at_least i topmost);
            on = rw b at (sum_at_least c leftmost);
            there = omega arith;
            holds = rw (down, on) (rw (get_d_tabulate (length rs) (common_row rs offsets) i no_row there) at h);
          }

  pub at_iteration : (x y : ℤ) → At x y → is_iteration (skewed rs) offsets (x ∷ y ∷ []) ≡ true
  unfolding plus
  at_iteration x y a =
      let u = above x topmost in
      let w = above y leftmost in
      rw (above_back x topmost a.down, above_back y leftmost a.on) at
      (cell_iteration rs offsets sized (u ∷ w ∷ []) (rw (get_d_tabulate (length rs) (common_row rs offsets) u no_row a.there) a.holds))

  -- The box lies among the iterations.
  module _ (l k h i : ℤ) where
    pub record Fits : Type 0 where
      pub down : le_z topmost l ≡ true
      pub tall : le_z l h ≡ true
      pub last : above h topmost < length rs
      pub on : le_z leftmost k ≡ true
      pub broad : le_z k i ≡ true
      pub end : above i leftmost < 8192
      pub each : (u : ℕ) → above l topmost ≤ u → u ≤ above h topmost → (common_start rs offsets u ≤ above k leftmost) × (above i leftmost < common_end rs offsets u)

    pub fits_box : Fits → bad_box (skewed rs) offsets (box (l ∷ k ∷ []) (h ∷ i ∷ [])) ≡ false
    unfolding crossed between common_row
    fits_box f = (each_of_box (skewed rs) (l ∷ k ∷ []) (h ∷ i ∷ []) (refl, refl) offsets).1 (rw (le_z_lt_z l h f.tall, le_z_lt_z k i f.broad), all)
      where
        all : (v : List ℤ) → between (l ∷ k ∷ []) (h ∷ i ∷ []) v ≡ true → is_iteration (skewed rs) offsets v ≡ true
        all [] b = absurd (false≢true b)
        all (x ∷ []) b = absurd (false≢true ((and-eq-true_iff (le_z x h) false).0 ((and-eq-true_iff (le_z l x) (le_z x h && false)).0 b).1).1)
        all (x ∷ y ∷ z ∷ v) b = absurd (false≢true ((and-eq-true_iff (le_z y i) false).0 ((and-eq-true_iff (le_z k y) (le_z y i && false)).0
            ((and-eq-true_iff (le_z x h) (le_z k y && (le_z y i && false))).0 ((and-eq-true_iff (le_z l x) (le_z x h && (le_z k y && (le_z y i && false)))).0 b).1).1).1).1)
        all (x ∷ y ∷ []) b =
            let a = (and-eq-true_iff (le_z l x) (le_z x h && (le_z k y && (le_z y i && true)))).0 b in
            let a' = (and-eq-true_iff (le_z x h) (le_z k y && (le_z y i && true))).0 a.1 in
            let c = (and-eq-true_iff (le_z k y) (le_z y i && true)).0 a'.1 in
            let c' = (and-eq-true_iff (le_z y i) true).0 c.1 in
            let down = le_z_trans topmost l x f.down a.0 in
            let on = le_z_trans leftmost k y f.on c.0 in
            let p = above_chain x l topmost f.down a.0 in
            let q = above_chain h x topmost down a'.0 in
            let r = above_chain y k leftmost f.on c.0 in
            let s = above_chain i y leftmost on c'.0 in
            let u = above x topmost in
            let (from, to) = f.each u (omega arith) (omega arith) in
            at_iteration x y (record { down = down; on = on; there = omega (arith, f.last); holds = record { from = omega arith; below = omega arith } })

    pub box_fits : bad_rows rs ≡ false → 0 < length offsets → bad_box (skewed rs) offsets (box (l ∷ k ∷ []) (h ∷ i ∷ [])) ≡ false → Fits
    unfolding crossed between common_row
    box_fits good some e =
        let (c, all) = (each_of_box (skewed rs) (l ∷ k ∷ []) (h ∷ i ∷ []) (refl, refl) offsets).0 e in
        let (tall, c') = not_crossed l h (lt_z i k || false) c in
        let (broad, _) = not_crossed k i false c' in
        let first = iteration_at some l k (all (l ∷ k ∷ []) (lowest_between (l ∷ k ∷ []) (h ∷ i ∷ []) refl c)) in
        let last = iteration_at some h i (all (h ∷ i ∷ []) (highest_between (l ∷ k ∷ []) (h ∷ i ∷ []) refl c)) in
        let ends = ends_below rs offsets good some (above h topmost) in
        record {
          down = first.down;
          tall = tall;
          last = last.there;
          on = first.on;
          broad = broad;
          end = omega (arith, last.holds.below, last.holds.from);
          each = λ u a b.
              let x = pos u +ℤ topmost in
              let down = sum_at_least u topmost in
              let here = sum_above u topmost in
              let p = le_z_by_above l x topmost first.down down (omega arith) in
              let q = le_z_by_above x h topmost down last.down (omega arith) in
              let left = rw here at (iteration_at some x k (all (x ∷ k ∷ []) (rw (p, q, le_z_refl k, broad)))).holds in
              let right = rw here at (iteration_at some x i (all (x ∷ i ∷ []) (rw (p, q, broad, le_z_refl i)))).holds in
              (left.from, omega (arith, right.from, right.below));
        }
