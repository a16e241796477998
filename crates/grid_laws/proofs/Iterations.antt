-- The laws of cells, iterations and what is read, under a value's own names.
use Prim.Native.Nat.{ℕ, suc, ◌+◌, ◌-◌, ◌*◌, ◌≤◌, ◌<◌}
use mathlib.Core.Bool.{true, false}
use mathlib.Core.List.{List, [], ◌∷◌}
use mathlib.Core.Logic.{◌↔◌}
use mathlib.Core.Path.{◌≡◌, sym, ◌∙◌, subst}
use native.Mathlib.Omega.{arith}
use lib.Dec.{eqb, ltb}
use lib.ListN.{length, get_or}
use borrow.Author.Tests.{eqb-false, ltb-true, ltb-false, lt-ltb}
use Rattle.model.specs.Lists.{tabulate, product, any}
use Rattle.model.specs.Vectors.{before}
use Rattle.model.specs.Geometry.{place, indices}
use Rattle.model.specs.Geometry as rectangular
use Rattle.model.specs.Grounds.{Row, Ground, ground_sizes, dims, row_cells, cell_count}
use Rattle.model.specs.Grounds.Ground.{rectangle, skewed}
use Rattle.model.specs.Courses.{count, all_iterations}
use Rattle.model.specs.Boxes.{course, bad_box}
use Rattle.model.specs.Values.{Trimmed}
use Rattle.model.specs.Sized.{Bounded, Suits, Proper, Fitting}
use Rattle.model.specs.Iterations.{cells_of, position_of, course_of, iterations_of, extents_of, iteration_of, reads_of, distance_in, distance_of, newest_of}
use Rattle.model.specs.Judging.{most_cells, bad_dims, bad_sizes, bad_grid, bad_row, bad_rows, bad_row_count, bad_ground, no_iteration}
use Rattle.grid_laws.specs.Right.{RightPair}
use Rattle.grid_laws.proofs.Tests.{neither}
use Rattle.grid_laws.proofs.ListLaws.{length_tabulate, get_d_tabulate, greatest_above, greatest_stands}
use Rattle.grid_laws.proofs.Listed.{course_some, reads_in}
use Rattle.grid_laws.proofs.Listed as run
use Rattle.grid_laws.proofs.DistanceLaws.{greatest_first, first_reached, distance_steady}
use Rattle.grid_laws.proofs.RectangleCourses.{length_course, count_product}
use Rattle.grid_laws.proofs.RectangleCourses as box

pub fitting : (t : Trimmed) → Proper t → 0 < t.count → bad_box t.the_ground t.offsets t.part ≡ false → Fitting t
fitting t p some fits = record { references = p.references; suits = record { some = omega (arith, p.references); entries = p.entries; bounded = p.bounded; fits = fits } }

-- What 3 and 16 let pass has no more cells than a grid may have.
row_cells_lem : (rs : List Row) → any bad_row rs ≡ false → row_cells rs ≤ 1024 * length rs
unfolding any bad_row row_cells
row_cells_lem [] e = omega arith
row_cells_lem (r ∷ rs) e =
    let (here, further) = neither (bad_row r) (any bad_row rs) e in
    let (_, size) = neither (ltb 4095 r.start) _ here in
    let (_, few) = neither (eqb r.length 0) (ltb 1024 r.length) size in
    omega (arith, ltb-false 1024 r.length few, row_cells_lem rs further)

few_in : (d : ℕ) (g : Ground) → bad_ground d g ≡ false → cell_count g ≤ most_cells
unfolding cell_count bad_grid bad_sizes bad_rows bad_row_count
few_in d (rectangle sizes) e =
    let (_, sized) = neither (bad_dims d) (bad_sizes sizes) e in
    ltb-false most_cells (rectangular.cell_count sizes) (neither (any (λ s. eqb s 0) sizes) (ltb most_cells (rectangular.cell_count sizes)) sized).1
few_in d (skewed rs) e =
    let (some, each) = neither (bad_row_count (length rs)) (any bad_row rs) e in
    let (_, many) = neither (eqb (length rs) 0) (ltb 512 (length rs)) some in
    omega (arith, ltb-false 512 (length rs) many, row_cells_lem rs each)

-- What holds of each rectangle holds of a ground that is one.
on_rectangle_lem : (P : Ground → Type 0) (g : Ground) (sizes : List ℕ) → g ≡ rectangle sizes → P (rectangle sizes) → P g
on_rectangle_lem P g sizes e x = subst P (sym e) x

module _ (t : Trimmed) where
  -- What 3, 16 and 6 let pass.
  pub few_cells : bad_ground t.dims t.the_ground ≡ false → cells_of t ≤ most_cells
  unfolding cells_of
  few_cells e = few_in t.dims t.the_ground e

  pub some_iteration : no_iteration t.the_ground t.offsets ≡ false → 0 < count (all_iterations t.the_ground t.offsets)
  unfolding no_iteration
  some_iteration e = let none = eqb-false (count (all_iterations t.the_ground t.offsets)) 0 e in omega arith

  -- What 6 and 15 let pass has an iteration that a run covers.
  pub some_covered : Bounded (dims t.the_ground) t.part → bad_box t.the_ground t.offsets t.part ≡ false → no_iteration t.the_ground t.offsets ≡ false → 0 < iterations_of t
  unfolding iterations_of course_of
  some_covered bounded fits e = course_some t.the_ground t.offsets t.part bounded fits (some_iteration e)

  module _ (f : Fitting t) where
    reference : (k : ℕ) → k < t.count → k < length t.offsets
    reference k h = omega (arith, f.references)

    -- There are at most as many iterations as cells.
    pub at_most_cells : iterations_of t ≤ cells_of t
    unfolding iterations_of course_of cells_of
    at_most_cells = run.at_most_cells t.the_ground t.offsets t.part f.suits

    -- Each reference reads later positions in later iterations.
    pub rises : (i j k : ℕ) → i < j → j < iterations_of t → k < t.count → reads_of t i k < reads_of t j k
    unfolding iterations_of course_of reads_of position_of iteration_of
    rises i j k l b h = run.rises t.the_ground t.offsets t.part f.suits i j k l b (reference k h)

    -- Each position read is that of a cell.
    pub below_cells : (j k : ℕ) → j < iterations_of t → k < t.count → reads_of t j k < cells_of t
    unfolding iterations_of course_of reads_of position_of iteration_of cells_of
    below_cells j k b h = run.below_cells t.the_ground t.offsets t.part f.suits j k b (reference k h)

    -- Offsets fall lexicographically exactly if the positions read fall.
    pub falls : (j k l : ℕ) → j < iterations_of t → k < t.count → l < t.count
        → before (get_or t.offsets l []) (get_or t.offsets k []) ≡ true ↔ reads_of t j l < reads_of t j k
    unfolding iterations_of course_of reads_of position_of iteration_of
    falls j k l b g h =
        let same = run.falls t.the_ground t.offsets t.part f.suits j k l b (reference k g) (reference l h) in
        (λ e. ltb-true (reads_of t j l) (reads_of t j k) (sym same ∙ e), λ m. same ∙ lt-ltb (reads_of t j l) (reads_of t j k) m)

    -- The reuse distance bounds the distance in every iteration, and one has it.
    pub distance_most : (j k : ℕ) → j < iterations_of t → suc k < t.count → distance_in t j k ≤ distance_of t k
    unfolding iterations_of course_of reads_of position_of iteration_of distance_in distance_of count
    distance_most j k b h =
        greatest_first (course t.the_ground t.offsets t.part).shape (λ j. distance_in t j k)
        (distance_steady t.the_ground t.offsets t.part f.suits k (reference (suc k) h)) j b

    pub distance_reached : (k : ℕ) → 0 < iterations_of t → (j : ℕ) × (j < iterations_of t) × (distance_in t j k ≡ distance_of t k)
    unfolding iterations_of course_of distance_of count
    distance_reached k some = first_reached (course t.the_ground t.offsets t.part).shape (λ j. distance_in t j k) some

    -- No reference reads past the newest cell, and one reads it.
    pub newest_most : (j k : ℕ) → k < t.count → reads_of t j k ≤ newest_of t j
    unfolding newest_of
    newest_most j k h =
        rw (get_d_tabulate (length t.offsets) (reads_of t j) k 0 (reference k h)) at
        (greatest_above (tabulate (length t.offsets) (reads_of t j)) k 0 (rw length_tabulate (reference k h)))

    pub newest_read : (j : ℕ) → (k : ℕ) × (k < t.count) × (reads_of t j k ≡ newest_of t j)
    unfolding newest_of
    newest_read j =
        let (k, b, e) = greatest_stands (tabulate (length t.offsets) (reads_of t j)) 0 (rw length_tabulate f.suits.some) in
        let c = rw length_tabulate at b in
        (k, omega (arith, f.references), sym (get_d_tabulate (length t.offsets) (reads_of t j) k 0 c) ∙ e)

    -- The pair of a right one falls in each iteration, and by no more than the capacity.
    pub right_reads : (j k : ℕ) → j < iterations_of t → suc k < t.count → RightPair t k
        → (reads_of t j (suc k) < reads_of t j k) × (reads_of t j k ≤ reads_of t j (suc k) + get_or t.capacities k 0)
    unfolding distance_in
    right_reads j k b h r =
        let fall = (falls j k (suc k) b (omega arith) h).0 r.falls in
        (fall, omega (arith, fall, r.holds, distance_most j k b h))

    -- A pair is right that falls in an iteration and whose capacity no distance exceeds.
    pub reads_right : (k : ℕ) → 0 < iterations_of t → suc k < t.count
        → ((j : ℕ) → j < iterations_of t → (reads_of t j (suc k) < reads_of t j k) × (reads_of t j k ≤ reads_of t j (suc k) + get_or t.capacities k 0)) → RightPair t k
    unfolding distance_in
    reads_right k some h each =
        let (j, b, e) = distance_reached k some in
        record { falls = (falls 0 k (suc k) some (omega arith) h).1 (each 0 some).0; holds = omega (arith, e, (each j b).0, (each j b).1) }

    -- On a rectangle:
    module _ (sizes : List ℕ) (e : t.the_ground ≡ rectangle sizes) where
      -- The iterations are those of a box of these extents.
      pub iterations_product : iterations_of t ≡ product (extents_of t)
      unfolding iterations_of extents_of course_of
      iterations_product =
          on_rectangle_lem (λ g. count (course g t.offsets t.part) ≡ product (ground_sizes (course g t.offsets t.part).shape)) t.the_ground sizes e
          (count_product sizes t.offsets t.part)

      pub extents_count : length (extents_of t) ≡ length sizes
      unfolding extents_of course_of
      extents_count =
          on_rectangle_lem (λ g. Bounded (dims g) t.part → length (ground_sizes (course g t.offsets t.part).shape) ≡ length sizes) t.the_ground sizes e
          (length_course sizes t.offsets t.part) f.suits.bounded

      -- All references read as far behind their first positions as the iteration lies behind the first.
      pub reads_from_first : (j k : ℕ) → j < iterations_of t → k < t.count → reads_of t j k ≡ reads_of t 0 k + place sizes (indices (extents_of t) j)
      unfolding iterations_of course_of reads_of position_of iteration_of extents_of
      reads_from_first j k b h =
          on_rectangle_lem (λ g. (s : Suits g t.offsets t.part) → j < count (course g t.offsets t.part)
          → reads_in g t.offsets t.part s j k ≡ reads_in g t.offsets t.part s 0 k + place sizes (indices (ground_sizes (course g t.offsets t.part).shape) j))
          t.the_ground sizes e (λ s a. box.reads_from_first sizes t.offsets t.part s j k a (reference k h)) f.suits b

      -- Iteration j lies less than the cell count behind the first.
      pub way_below : (j : ℕ) → j < iterations_of t → place sizes (indices (extents_of t) j) < cells_of t
      way_below j h = let some : 0 < t.count = omega (arith, f.references, f.suits.some) in omega (arith, reads_from_first j 0 h some, below_cells j 0 h some)

      -- The reuse distance is the same in all iterations.
      pub one_distance : (i j k l : ℕ) → i < iterations_of t → j < iterations_of t → k < t.count → l < t.count → reads_of t i k + reads_of t j l ≡ reads_of t j k + reads_of t i l
      one_distance i j k l a b g h = omega (arith, reads_from_first i k a g, reads_from_first j l b h, reads_from_first j k b g, reads_from_first i l a h)

      pub same_distance : (j k : ℕ) → j < iterations_of t → suc k < t.count → reads_of t j k - reads_of t j (suc k) ≡ distance_of t k
      unfolding distance_in
      same_distance j k b h =
          let (i, a, d) = distance_reached k (omega arith) in
          omega (arith, d, one_distance i j k (suc k) a b (omega arith) h)
