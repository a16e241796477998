-- The laws of iterations, positions and distances (document 01, "Grid, window, distances"), on rectangles, for all dimension counts together.
-- `sizes` are the grid's and `offsets` the window's; reference k has the offset `get_or offsets k []`.
use Prim.Native.Nat.{ℕ, suc, ◌+◌, ◌-◌, ◌≤◌, ◌<◌}
use mathlib.Core.Bool.{Bool, true, and-eq-true_iff}
use mathlib.Core.List.{List, [], ◌∷◌, map}
use mathlib.Core.Logic.{◌↔◌}
use mathlib.Core.Path.{◌≡◌, refl, sym, ◌∙◌, ap, ap₂}
use native.Mathlib.Omega.{arith}
use lib.Dec.{ltb, eqb}
use lib.ListN.{length, get_or}
use lib.IntN.{ℤ, pos, neg_ℤ}
use borrow.Author.Tests.{ltb-true, lt-ltb, eq-eqb, eqb-true}
use Rattle.model.specs.Lists.{all}
use Rattle.model.specs.Vectors.{plus, before}
use Rattle.model.specs.Geometry.{cell_count, place, inside, first_entry, other_entries, lows, extents, indices, counted_from}
use Rattle.model.specs.Sized.{Sized}
use Rattle.model.specs.Windows.{relative, Members}
use Rattle.grid_laws.proofs.Rectangles.{is_iteration, iteration_count, iteration, reads, distance}
use Rattle.grid_laws.proofs.ListLaws.{all_each, each_all, among_map}
use Rattle.grid_laws.proofs.IntegerLaws.{least_same}
use Rattle.grid_laws.proofs.PlaceLaws.{place_below, place_add, place_injective, indices_below, place_indices, first_indices, before_place}
use Rattle.grid_laws.proofs.WindowLaws.{product_extents, same_extent}
use Rattle.grid_laws.proofs.IterationLaws.{
  below_inside,
  found,
  indices_of,
  first_cell,
  length_iteration,
  indices_rise,
  offset_at_least,
  cell_read,
  position_read,
  first_below,
  read_below,
}

module _ (sizes : List ℕ) (offsets : List (List ℤ)) where
  -- There are at most as many iterations as cells.
  pub at_most_cells : iteration_count sizes offsets ≤ cell_count sizes
  unfolding iteration_count cell_count
  at_most_cells = product_extents sizes offsets

  module _ (sized : Sized (length sizes) offsets) where
    -- Each vector that is listed is an iteration.
    pub listed : (j : ℕ) → j < iteration_count sizes offsets → is_iteration sizes offsets (iteration sizes offsets j) ≡ true
    unfolding is_iteration
    listed j b =
        (and-eq-true_iff _ _).1 (
          eq-eqb _ _ (length_iteration sizes offsets j),
          each_all (λ o. inside sizes (plus (iteration sizes offsets j) o)) offsets []
              (λ k h. rw (cell_read sizes offsets sized k h j) (below_inside sizes _ (read_below sizes offsets sized k h j b))),
        )

    -- Each iteration is listed.
    pub complete : (v : List ℤ) → 0 < length offsets → is_iteration sizes offsets v ≡ true → (j : ℕ) × (j < iteration_count sizes offsets) × (v ≡ iteration sizes offsets j)
    unfolding is_iteration iteration_count iteration cell_count
    complete v s e =
        let es = extents sizes offsets in
        let stays : List ℤ → Bool = λ o. inside sizes (plus v o) in
        let (entries, each) = (and-eq-true_iff (eqb (length v) (length sizes)) (all stays offsets)).0 e in
        let (us, b, f) = found sizes offsets v s sized (eqb-true _ _ entries) (all_each stays offsets [] each) in
        let j = place es us in
        let below = place_below es us b in
        (j, below, f ∙ ap (counted_from (map neg_ℤ (lows sizes offsets))) (place_injective es us (indices es j) b (indices_below es j below) (sym (place_indices es j below))))

    -- The position read is that of the offset counted from the lows plus that of the iteration's indices.
    pub reads_sum : (j k : ℕ) → j < iteration_count sizes offsets → k < length offsets
        → reads sizes offsets j k ≡ place sizes (relative (get_or offsets k []) (lows sizes offsets)) + place sizes (indices (extents sizes offsets) j)
    reads_sum j k b h =
        position_read sizes offsets sized k h j
        ∙ place_add sizes (first_cell sizes offsets k) (indices_of sizes offsets j) (read_below sizes offsets sized k h j b)

    -- In iteration j each reference reads as far behind its first position as the iteration's indices lie.
    pub reads_from_first : (j k : ℕ) → j < iteration_count sizes offsets → k < length offsets
        → reads sizes offsets j k ≡ reads sizes offsets 0 k + place sizes (indices (extents sizes offsets) j)
    reads_from_first j k b h = omega (arith, reads_sum j k b h, reads_sum 0 k (omega arith) h, first_indices sizes (extents sizes offsets))

    -- Each reference reads later positions in later iterations.
    pub rises : (i j k : ℕ) → i < j → j < iteration_count sizes offsets → k < length offsets → reads sizes offsets i k < reads sizes offsets j k
    rises i j k l b h = omega (arith, reads_sum i k (omega arith) h, reads_sum j k b h, indices_rise sizes offsets i j l b)

    -- Each position read is that of a cell.
    pub below_cells : (j k : ℕ) → j < iteration_count sizes offsets → k < length offsets → reads sizes offsets j k < cell_count sizes
    below_cells j k b h = rw (position_read sizes offsets sized k h j) (place_below sizes _ (read_below sizes offsets sized k h j b))

    -- Two references read equally far apart in all iterations.
    pub one_distance : (i j k l : ℕ) → i < iteration_count sizes offsets → j < iteration_count sizes offsets → k < length offsets → l < length offsets
        → reads sizes offsets i k + reads sizes offsets j l ≡ reads sizes offsets j k + reads sizes offsets i l
    one_distance i j k l a b g h = omega (arith, reads_sum i k a g, reads_sum j l b h, reads_sum j k b g, reads_sum i l a h)

    -- Offsets fall lexicographically exactly if the positions read fall.
    pub falls : (j k l : ℕ) → j < iteration_count sizes offsets → k < length offsets → l < length offsets
        → before (get_or offsets l []) (get_or offsets k []) ≡ true ↔ reads sizes offsets j l < reads sizes offsets j k
    falls j k l b g h =
        let at-l = reads_sum j l b h in
        let at-k = reads_sum j k b g in
        (λ e. omega (arith, ltb-true (at l) (at k) (sym order ∙ e)), λ f. order ∙ lt-ltb (at l) (at k) (omega arith))
      where
        at : ℕ → ℕ
        at k = place sizes (first_cell sizes offsets k)

        order : before (get_or offsets l []) (get_or offsets k []) ≡ ltb (at l) (at k)
        order =
            before_place sizes (offset_at_least sizes offsets sized l h) (offset_at_least sizes offsets sized k g)
            (first_below sizes offsets sized l h j b) (first_below sizes offsets sized k g j b)

    -- The reuse distance is the same in all iterations.
    pub same_distance : (j k : ℕ) → j < iteration_count sizes offsets → suc k < length offsets
        → reads sizes offsets j k - reads sizes offsets j (suc k) ≡ distance sizes offsets k
    unfolding distance
    same_distance j k b h = omega (arith, one_distance 0 j k (suc k) (omega arith) b (omega arith) h)

-- Windows with the same offsets, in whatever order, have the same lows.
pub same_lows : (sizes : List ℕ) (a b : List (List ℤ)) → Members a b → Members b a → lows sizes a ≡ lows sizes b
unfolding lows first_entry other_entries
same_lows [] a b m n = refl
same_lows (s ∷ ss) a b m n =
    ap₂ ◌∷◌ (least_same (map first_entry a) (map first_entry b) (pos 0) (among_map first_entry [] a b m) (among_map first_entry [] b a n))
    (same_lows ss (map other_entries a) (map other_entries b) (among_map other_entries [] a b m) (among_map other_entries [] b a n))

-- They have the same extents.
pub same_extents : (sizes : List ℕ) (a b : List (List ℤ)) → Members a b → Members b a → extents sizes a ≡ extents sizes b
unfolding extents first_entry other_entries
same_extents [] a b m n = refl
same_extents (s ∷ ss) a b m n =
    ap₂ ◌∷◌ (same_extent s (map first_entry a) (map first_entry b) (among_map first_entry [] a b m) (among_map first_entry [] b a n))
    (same_extents ss (map other_entries a) (map other_entries b) (among_map other_entries [] a b m) (among_map other_entries [] b a n))
