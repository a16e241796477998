-- Laws that lead from the arrays to a window's shape.
use Prim.Native.Nat.{ℕ, zero, suc, ◌+◌, ◌-◌, ◌*◌, ◌<◌, ◌≤◌}
use mathlib.Core.Bool.{true, false}
use mathlib.Core.List.{List, [], ◌∷◌}
use mathlib.Core.Path.{◌≡◌, refl, sym, ◌∙◌, ap, ap₂}
use native.Mathlib.Nat.{le_trans}
use native.Mathlib.Omega.{arith}
use lib.IntN.{ℤ}
use lib.ListN.{length, get_or, get_or-eq_default}
use borrow.Author.Tests.{eq-eqb, ne_eqb}
use Rattle.model.specs.Lists.{tabulate, sum, product}
use Rattle.model.specs.Vectors.{above, plus}
use Rattle.model.specs.Geometry.{cell_count, place, first_entry, other_entries, least, lows, extent, extents}
use Rattle.model.specs.Grounds.{cell_place, position, cell_at}
use Rattle.model.specs.Grounds.Ground.{rectangle}
use Rattle.model.specs.Courses.{vector, all_iterations}
use Rattle.model.specs.Windows.{relative}
use Rattle.model.specs.Values.{sizes_of, offset_of, offsets_of}
use Rattle.model.specs.Judging.{most_cells, bad_grid, bad_count, no_iteration}
use Rattle.model.specs.declared.Grid.{Grid}
use Rattle.model.specs.declared.Window.{Window}
use Rattle.grid_laws.proofs.Rectangles.{iteration_count, iteration, reads}
use Rattle.grid_laws.proofs.Rectangles as rectangle
use Rattle.grid_laws.proofs.ListLaws.{length_tabulate, get_d_tabulate, tabulate_same, map_tabulate}
use Rattle.grid_laws.proofs.PlaceLaws.{first_indices}
use Rattle.grid_laws.proofs.Distances.{reads_sum, below_cells}
use Rattle.grid_laws.proofs.ChainLaws.{sizes_sized}
use Rattle.grid_laws.proofs.WholeLaws.{rectangle_count}
use Rattle.geometry.specs.Parts.{part, number_at, entry_at, entries_in, Filled, Lows, place_by, Small}
use Rattle.windows.specs.Lows.{span_in}
use Rattle.windows.proofs.LowLaws.{span_there}
use Rattle.shape.specs.Shapes.{sound, stride, shape_for, whole_shape, blank_shape, shape_of}
use Rattle.shape.specs.declared.Shape.{Shape}
use Rattle.geometry.proofs.PartLaws.{part_all}
use Rattle.geometry.proofs.FillLaws.{filled_all}
use Rattle.geometry.proofs.GridLaws.{sizes_above, few_cells}
use Rattle.shape.proofs.PlacingLaws.{product_of_last, part_at_most, stride_behind, stride_past, place_by_strides}

-- Dimension by dimension: the extents, the lows, an offset counted from the lows. Entry d of reference k is f k d.
module _ (m : ℕ) where
  pub extents_by_dimension : (n : ℕ) (s : ℕ → ℕ) (f : ℕ → ℕ → ℤ)
      → extents (tabulate n s) (tabulate m (λ k. tabulate n (f k))) ≡ tabulate n (λ d. extent (s d) (tabulate m (λ k. f k d)))
  unfolding extents tabulate first_entry other_entries
  extents_by_dimension zero s f = refl
  extents_by_dimension (suc n) s f =
      ap₂ ◌∷◌ (ap (extent (s 0)) (map_tabulate first_entry m (λ k. tabulate (suc n) (f k))))
      (ap (extents (tabulate n (λ i. s (suc i)))) (map_tabulate other_entries m (λ k. tabulate (suc n) (f k))) ∙ extents_by_dimension n (λ i. s (suc i)) (λ k i. f k (suc i)))

  pub lows_by_dimension : (n : ℕ) (s : ℕ → ℕ) (f : ℕ → ℕ → ℤ)
      → lows (tabulate n s) (tabulate m (λ k. tabulate n (f k))) ≡ tabulate n (λ d. least (tabulate m (λ k. f k d)))
  unfolding lows tabulate first_entry other_entries
  lows_by_dimension zero s f = refl
  lows_by_dimension (suc n) s f =
      ap₂ ◌∷◌ (ap least (map_tabulate first_entry m (λ k. tabulate (suc n) (f k))))
      (ap (lows (tabulate n (λ i. s (suc i)))) (map_tabulate other_entries m (λ k. tabulate (suc n) (f k))) ∙ lows_by_dimension n (λ i. s (suc i)) (λ k i. f k (suc i)))

pub relative_by_dimension : (n : ℕ) (f g : ℕ → ℤ) → relative (tabulate n f) (tabulate n g) ≡ tabulate n (λ d. above (f d) (g d))
unfolding relative tabulate
relative_by_dimension zero f g = refl
relative_by_dimension (suc n) f g = ap (◌∷◌ (above (f 0) (g 0))) (relative_by_dimension n (λ i. f (suc i)) (λ i. g (suc i)))

-- The extent, by how far the greatest entry lies above the low.
pub extent_is : (s count : ℕ) (offsets : List ℤ) (d : ℕ) (low : ℤ) → count ≤ 32 → d < 4 → low ≡ least (entries_in count offsets d)
    → s - span_in count offsets d low ≡ extent s (entries_in count offsets d)
unfolding extent
extent_is s count offsets d low h k e = rw (span_there count offsets d low h k, e)

-- Past the last reference nothing is read, in whichever iteration.
pub nothing_read : (sizes : List ℕ) (offsets : List (List ℤ)) (v : List ℤ) (k : ℕ) → length offsets ≤ k → position (rectangle sizes) (plus v (get_or offsets k [])) ≡ 0
unfolding position cell_place plus place
nothing_read sizes offsets v k h = rw (get_or-eq_default offsets [] h, nothing v) (nowhere sizes)
  where
    nothing : (v : List ℤ) → plus v [] ≡ []
    nothing [] = refl
    nothing (x ∷ v) = refl

    nowhere : (sizes : List ℕ) → place sizes [] ≡ 0
    nowhere [] = refl
    nowhere (s ∷ ss) = refl

-- A grid and a window that neither 3 nor 4 turns back.
module _ (g : Grid) (w : Window) (a : bad_grid g.dims (sizes_of g) ≡ false) (b : bad_count w.count ≡ false) where
  pub small_sizes : Small g.sizes g.dims
  unfolding sizes_of cell_count
  small_sizes d = le_trans (product_of_last (number_at g.sizes) g.dims (sizes_above g a) d) (few_cells g a)

  pub cells_are : product (part (number_at g.sizes) 0 g.dims) ≡ cell_count (sizes_of g)
  unfolding sizes_of cell_count
  cells_are = ap product (part_all (number_at g.sizes) g.dims)

  -- The extents in an array.
  module _ (xs : List ℕ) (r : Filled 4 0 (λ d. extent (number_at g.sizes d) (entries_in w.count w.offsets d)) g.dims xs) where
    pub small_extents : Small xs g.dims
    unfolding extent
    small_extents d = le_trans (part_at_most (number_at xs) (number_at g.sizes) d g.dims (λ i h. rw (r.done i h) (omega arith))) (small_sizes d)

    pub iterations_are : product (part (number_at xs) 0 g.dims) ≡ iteration_count (sizes_of g) (offsets_of g.dims w)
    unfolding iteration_count sizes_of offsets_of offset_of
    iterations_are =
        ap product (
        part_all (number_at xs) g.dims
        ∙ tabulate_same g.dims (number_at xs) (λ d. extent (number_at g.sizes d) (entries_in w.count w.offsets d)) r.done
        ∙ sym (extents_by_dimension w.count g.dims (number_at g.sizes) (entry_at w.offsets))
        )

    pub extents_are : xs ≡ tabulate 4 (λ d. get_or (extents (sizes_of g) (offsets_of g.dims w)) d 0)
    unfolding sizes_of offsets_of offset_of
    extents_are =
        filled_all 4 0 at (λ d. get_or (extents (sizes_of g) (offsets_of g.dims w)) d 0) g.dims xs
        (λ d h. sym (ap (λ (es : List ℕ). get_or es d 0) by_dimension ∙ get_d_tabulate g.dims at d 0 h))
        (λ d h. get_or-eq_default (extents (sizes_of g) (offsets_of g.dims w)) 0 (rw (by_dimension, length_tabulate g.dims at) h)) r
      where
        at : ℕ → ℕ
        at d = extent (number_at g.sizes d) (entries_in w.count w.offsets d)

        by_dimension : extents (sizes_of g) (offsets_of g.dims w) ≡ tabulate g.dims at
        by_dimension = extents_by_dimension w.count g.dims (number_at g.sizes) (entry_at w.offsets)

  -- The strides in an array.
  module _ (st : List ℕ) (r : Filled 4 0 (λ d. product (part (number_at g.sizes) (d + 1) g.dims)) g.dims st) where
    pub strides_are : st ≡ tabulate 4 (λ d. stride (sizes_of g) d)
    unfolding sizes_of
    strides_are =
        filled_all 4 0 (λ d. product (part (number_at g.sizes) (d + 1) g.dims)) (λ d. stride (sizes_of g) d) g.dims st
        (λ d h. sym (stride_behind g.dims (number_at g.sizes) d h)) (stride_past g.dims (number_at g.sizes)) r

    -- The lows in an array.
    module _ (ls : List ℤ) (l : Lows g.dims w.count w.offsets ls) where
      counted_from_lows : (k : ℕ) → k < w.count
          → place_by g.dims ls st w.offsets k ≡ place (sizes_of g) (relative (get_or (offsets_of g.dims w) k []) (lows (sizes_of g) (offsets_of g.dims w)))
      unfolding sizes_of offsets_of offset_of
      counted_from_lows k h =
          ap sum (tabulate_same g.dims _
          (λ d. above (entry_at w.offsets k d) (least (entries_in w.count w.offsets d)) * product (part (number_at g.sizes) (d + 1) g.dims))
          (λ d i. ap₂ (λ (z : ℤ) (s : ℕ). above (entry_at w.offsets k d) z * s) (l.done d i) (r.done d i)))
          ∙ sym (place_by_strides g.dims (number_at g.sizes) (λ d. above (entry_at w.offsets k d) (least (entries_in w.count w.offsets d))))
          ∙ ap (place (sizes_of g)) (sym (
          ap₂ relative (get_d_tabulate w.count (λ i. tabulate g.dims (entry_at w.offsets i)) k [] h)
          (lows_by_dimension w.count g.dims (number_at g.sizes) (entry_at w.offsets))
          ∙ relative_by_dimension g.dims (entry_at w.offsets k) (λ d. least (entries_in w.count w.offsets d))
          ))

      module _ (some : 0 < iteration_count (sizes_of g) (offsets_of g.dims w)) where
        below : (k : ℕ) → k < w.count → k < length (offsets_of g.dims w)
        unfolding offsets_of
        below k h = rw length_tabulate h

        place_is : (k : ℕ) → k < w.count → place_by g.dims ls st w.offsets k ≡ reads (sizes_of g) (offsets_of g.dims w) 0 k
        place_is k h =
            omega (
              arith,
              counted_from_lows k h,
              reads_sum (sizes_of g) (offsets_of g.dims w) (sizes_sized g w) 0 k some (below k h),
              first_indices (sizes_of g) (extents (sizes_of g) (offsets_of g.dims w)),
            )

        pub place_small : (k : ℕ) → k < w.count → place_by g.dims ls st w.offsets k ≤ most_cells
        place_small k h = omega (arith, place_is k h, few_cells g a, below_cells (sizes_of g) (offsets_of g.dims w) (sizes_sized g w) 0 k some (below k h))

        pub places_are : (at : List ℕ) → Filled 32 0 (place_by g.dims ls st w.offsets) w.count at
            → at ≡ tabulate 32 (λ k. reads (sizes_of g) (offsets_of g.dims w) 0 k)
        unfolding offsets_of reads rectangle.position position cell_place
        places_are at f = filled_all 32 0 (place_by g.dims ls st w.offsets) (λ k. reads (sizes_of g) (offsets_of g.dims w) 0 k) w.count at place_is past f
          where
            past : (k : ℕ) → w.count ≤ k → reads (sizes_of g) (offsets_of g.dims w) 0 k ≡ 0
            past k h = nothing_read (sizes_of g) (offsets_of g.dims w) (iteration (sizes_of g) (offsets_of g.dims w) 0) k (rw length_tabulate h)

-- What is answered where 3, 4 or 6 turns grid and window back.
module _ (g : Grid) (w : Window) where
  module _ (a : bad_grid g.dims (sizes_of g) ≡ false) (b : bad_count w.count ≡ false) where
    is_sound : sound g w ≡ true
    unfolding sound
    is_sound = rw (a, b)

    pub blank_iterations : iteration_count (sizes_of g) (offsets_of g.dims w) ≡ 0 → blank_shape ≡ shape_of g w
    unfolding shape_of no_iteration
    blank_iterations e = rw (is_sound, eq-eqb _ 0 (rectangle_count (sizes_of g) (offsets_of g.dims w) ∙ e))

    pub whole_shape_lem : (iteration_count (sizes_of g) (offsets_of g.dims w) ≡ 0 → ⊥) → whole_shape (sizes_of g) (offsets_of g.dims w) ≡ shape_of g w
    unfolding shape_of no_iteration
    whole_shape_lem h = rw (is_sound, ne_eqb _ 0 (λ z. h (sym (rectangle_count (sizes_of g) (offsets_of g.dims w)) ∙ z)))

-- A shape from its parts.
pub shape_from : (sizes : List ℕ) (offsets : List (List ℤ)) (cells iterations : ℕ) (xs st at : List ℕ)
    → cells ≡ cell_count sizes → iterations ≡ iteration_count sizes offsets → xs ≡ tabulate 4 (λ d. get_or (extents sizes offsets) d 0)
    → st ≡ tabulate 4 (λ d. stride sizes d) → at ≡ tabulate 32 (λ k. reads sizes offsets 0 k)
    → ◌≡◌ {A = Shape} (record { cells = cells; iterations = iterations; extents = xs; strides = st; at = at }) (whole_shape sizes offsets)
unfolding shape_for all_iterations vector cell_at reads iteration rectangle.position position cell_place
shape_from sizes offsets cells iterations xs st at p q r s t = λ i. record { cells = p i; iterations = (q ∙ sym (rectangle_count sizes offsets)) i; extents = r i; strides = s i; at = t i }
