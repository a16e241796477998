-- Laws of a box in its arrays: when 15 holds, and the shape of its iterations.
use Prim.Native.Nat.{ℕ, zero, suc, ◌+◌, ◌-◌, ◌*◌, ◌≤◌, ◌<◌}
use mathlib.Core.Bool.{Bool, true, false}
use mathlib.Core.List.{List, [], ◌∷◌, map}
use mathlib.Core.Path.{◌≡◌, refl, sym, ◌∙◌, ap, ap₂}
use native.Mathlib.Nat.{le_trans}
use native.Mathlib.Omega.{arith}
use lib.IntN.{ℤ, pos, neg_ℤ}
use lib.ListN.{length, get_or, get_or-eq_default}
use lib.Signed.{lt_z, le_z}
use borrow.Author.Tests.{eqb-false, le-ltb}
use Rattle.model.specs.Lists.{tabulate, sum, product}
use Rattle.model.specs.Vectors.{above, plus}
use Rattle.model.specs.Geometry.{place, least, lows, extent, extents}
use Rattle.model.specs.Geometry as rectangular
use Rattle.model.specs.Grounds.{ground_sizes, cell_count, cell_place, position, cell_at}
use Rattle.model.specs.Grounds.Ground.{rectangle}
use Rattle.model.specs.Courses.{Course, count, vector, all_iterations}
use Rattle.model.specs.Boxes.{index_count, widths, box_shape, box_course, course, crossed, bad_box}
use Rattle.model.specs.Boxes.Part.{box}
use Rattle.model.specs.Windows.{relative}
use Rattle.model.specs.Answers.{first_of}
use Rattle.model.specs.Values.{sizes_of, offset_of, offsets_of, part_of}
use Rattle.model.specs.Iterations.{course_of}
use Rattle.model.specs.Judging.{most_cells, bad_grid, bad_count, no_iteration, window_checks}
use Rattle.model.specs.declared.Bounds.{Bounds}
use Rattle.model.specs.declared.Grid.{Grid}
use Rattle.model.specs.declared.Refusal.TheVariants as refusal
use Rattle.std.specs.Prelude.{Ok, Err}
use Rattle.model.specs.declared.Window.{Window}
use Rattle.model.specs.Sized.{Bounded, Suits}
use Rattle.grid_laws.proofs.Rectangles as rectangle
use Rattle.grid_laws.proofs.Tests.{neither}
use Rattle.grid_laws.proofs.ListLaws.{length_tabulate, get_d_tabulate, tabulate_same, map_tabulate}
use Rattle.grid_laws.proofs.IntegerLaws.{le_z_trans, not_lt_z, le_z_lt_z, above_order, above_chain}
use Rattle.grid_laws.proofs.PlaceLaws.{Below, AtLeast}
use Rattle.grid_laws.proofs.PlaceLaws.AtLeast.{none, next}
use Rattle.grid_laws.proofs.ChainLaws.{offsets_count, sizes_sized}
use Rattle.grid_laws.proofs.BoxLaws.{index_count_lem}
use Rattle.grid_laws.proofs.RectangleBoxes.{within_fits, iteration_within, corners}
use Rattle.grid_laws.proofs.RectangleCourses.{first_reads}
use Rattle.grid_laws.proofs.Listed.{course_some, below_cells}
use Rattle.geometry.specs.Parts.{part, number_at, entry_at, entries_in, Filled, Lows, Small}
use Rattle.geometry.proofs.PartLaws.{part_all}
use Rattle.geometry.proofs.FillLaws.{filled_all}
use Rattle.geometry.proofs.GridLaws.{few_dimensions, few_cells, some_references, few_references}
use Rattle.windows.proofs.IndexLaws.{index_inside, inside_index}
use Rattle.shape.specs.Shapes.{stride, shape_for, survey_of, Whole}
use Rattle.shape.specs.Boxing.{first_at, last_at, LiesIn, Outside, PlacedIn}
use Rattle.shape.specs.declared.Shape.{Shape}
use Rattle.shape.specs.declared.boxed.Placed.{Placed}
use Rattle.shape.proofs.PlacingLaws.{part_at_most, stride_behind, place_by_strides}
use Rattle.shape.proofs.ShapeLaws.{extents_by_dimension, lows_by_dimension, relative_by_dimension, small_sizes, nothing_read}

-- Lists that are given entry by entry.
at_least_by : (n : ℕ) (f g : ℕ → ℤ) → ((d : ℕ) → d < n → le_z (f d) (g d) ≡ true) → AtLeast (tabulate n f) (tabulate n g)
unfolding tabulate
at_least_by zero f g h = none
at_least_by (suc n) f g h = next (h 0 (omega arith)) (at_least_by n (λ i. f (suc i)) (λ i. g (suc i)) (λ d b. h (suc d) (omega arith)))

each_at_least : (n : ℕ) (f g : ℕ → ℤ) → AtLeast (tabulate n f) (tabulate n g) → (d : ℕ) → d < n → le_z (f d) (g d) ≡ true
unfolding tabulate
each_at_least zero f g a d h = absurd (omega arith)
each_at_least (suc n) f g (next p a) zero h = p
each_at_least (suc n) f g (next p a) (suc d) h = each_at_least n (λ i. f (suc i)) (λ i. g (suc i)) a d (omega arith)

below_by : (n : ℕ) (e x : ℕ → ℕ) → ((d : ℕ) → d < n → x d < e d) → Below (tabulate n e) (tabulate n x)
unfolding tabulate
below_by zero e x h = tt
below_by (suc n) e x h = (h 0 (omega arith), below_by n (λ i. e (suc i)) (λ i. x (suc i)) (λ d b. h (suc d) (omega arith)))

each_below : (n : ℕ) (e x : ℕ → ℕ) → Below (tabulate n e) (tabulate n x) → (d : ℕ) → d < n → x d < e d
unfolding tabulate
each_below zero e x b d h = absurd (omega arith)
each_below (suc n) e x b zero h = b.0
each_below (suc n) e x b (suc d) h = each_below n (λ i. e (suc i)) (λ i. x (suc i)) b.1 d (omega arith)

uncrossed_by : (n : ℕ) (l h : ℕ → ℤ) → ((d : ℕ) → d < n → lt_z (h d) (l d) ≡ false) → crossed (tabulate n l) (tabulate n h) ≡ false
unfolding tabulate crossed
uncrossed_by zero l h f = refl
uncrossed_by (suc n) l h f = rw (f 0 (omega arith)) (uncrossed_by n (λ i. l (suc i)) (λ i. h (suc i)) (λ d b. f (suc d) (omega arith)))

each_uncrossed : (n : ℕ) (l h : ℕ → ℤ) → crossed (tabulate n l) (tabulate n h) ≡ false → (d : ℕ) → d < n → lt_z (h d) (l d) ≡ false
unfolding tabulate crossed
each_uncrossed zero l h e d b = absurd (omega arith)
each_uncrossed (suc n) l h e zero b = (neither (lt_z (h 0) (l 0)) (crossed (tabulate n (λ i. l (suc i))) (tabulate n (λ i. h (suc i)))) e).0
each_uncrossed (suc n) l h e (suc d) b = each_uncrossed n (λ i. l (suc i)) (λ i. h (suc i)) (neither (lt_z (h 0) (l 0)) (crossed (tabulate n (λ i. l (suc i))) (tabulate n (λ i. h (suc i)))) e).1 d (omega arith)

widths_by : (n : ℕ) (l h : ℕ → ℤ) → widths (tabulate n l) (tabulate n h) ≡ tabulate n (λ d. index_count (l d) (h d))
unfolding tabulate widths
widths_by zero l h = refl
widths_by (suc n) l h = ap (◌∷◌ (index_count (l 0) (h 0))) (widths_by n (λ i. l (suc i)) (λ i. h (suc i)))

-- A grid and a window that neither 3 nor 4 turns back, and bounds that stood; the lows and the extents in arrays.
module _ (g : Grid) (w : Window) (x : Bounds) (a : bad_grid g.dims (sizes_of g) ≡ false) (b : bad_count w.count ≡ false) (ls : List ℤ) (l : Lows g.dims w.count w.offsets ls)
    (xs : List ℕ) (e : xs ≡ tabulate 4 (λ d. get_or (extents (sizes_of g) (offsets_of g.dims w)) d 0)) where
  abbrev sizes : List ℕ
  sizes = sizes_of g

  abbrev offsets : List (List ℤ)
  offsets = offsets_of g.dims w

  -- In dimension d: the window's low, the extent, the lowest and the highest index.
  abbrev low_in : ℕ → ℤ
  low_in d = least (entries_in w.count w.offsets d)

  abbrev extent_in : ℕ → ℕ
  extent_in d = extent (number_at g.sizes d) (entries_in w.count w.offsets d)

  abbrev lowest_in : ℕ → ℤ
  lowest_in d = get_or x.lowest d (pos 0)

  abbrev highest_in : ℕ → ℤ
  highest_in d = get_or x.highest d (pos 0)

  abbrev lowest : List ℤ
  lowest = tabulate g.dims lowest_in

  abbrev highest : List ℤ
  highest = tabulate g.dims highest_in

  extents_are : extents sizes offsets ≡ tabulate g.dims extent_in
  unfolding sizes_of offsets_of offset_of
  extents_are = extents_by_dimension w.count g.dims (number_at g.sizes) (entry_at w.offsets)

  negated_lows : map neg_ℤ (lows sizes offsets) ≡ tabulate g.dims (λ d. neg_ℤ (low_in d))
  unfolding sizes_of offsets_of offset_of
  negated_lows = ap (map neg_ℤ) (lows_by_dimension w.count g.dims (number_at g.sizes) (entry_at w.offsets)) ∙ map_tabulate neg_ℤ g.dims low_in

  extent_is : (d : ℕ) → d < g.dims → number_at xs d ≡ extent_in d
  extent_is d h =
      ap (λ (ys : List ℕ). number_at ys d) e ∙ get_d_tabulate 4 (λ i. get_or (extents sizes offsets) i 0) d 0 (omega (arith, few_dimensions g a))
      ∙ ap (λ (ys : List ℕ). get_or ys d 0) extents_are ∙ get_d_tabulate g.dims extent_in d 0 h

  counted_from_lem : (f : ℕ → ℤ) → relative (tabulate g.dims f) (map neg_ℤ (lows sizes offsets)) ≡ tabulate g.dims (λ d. above (f d) (neg_ℤ (low_in d)))
  counted_from_lem f = ap (relative (tabulate g.dims f)) negated_lows ∙ relative_by_dimension g.dims f (λ d. neg_ℤ (low_in d))

  -- Where the box lies among the iterations in dimension d.
  pub record Lies (d : ℕ) : Type 0 where
    pub low : le_z (neg_ℤ (low_in d)) (lowest_in d) ≡ true
    pub rises : le_z (lowest_in d) (highest_in d) ≡ true
    pub high : above (highest_in d) (neg_ℤ (low_in d)) < extent_in d
    pub first : first_at x.lowest x.highest ls xs d ≡ above (lowest_in d) (neg_ℤ (low_in d))
    pub width : last_at x.lowest x.highest ls xs d - first_at x.lowest x.highest ls xs d + 1 ≡ index_count (lowest_in d) (highest_in d)

  lies : (d : ℕ) → d < g.dims → LiesIn x.lowest x.highest ls xs d → Lies d
  lies d h r =
      let (p, q, s) = index_inside (lowest_in d) (low_in d) (number_at xs d) (rw (l.done d h) at r.first) in
      let (p₂, q₂, s₂) = index_inside (highest_in d) (low_in d) (number_at xs d) (rw (l.done d h) at r.last) in
      let first : first_at x.lowest x.highest ls xs d ≡ above (lowest_in d) (neg_ℤ (low_in d)) = rw (l.done d h) s in
      let last : last_at x.lowest x.highest ls xs d ≡ above (highest_in d) (neg_ℤ (low_in d)) = rw (l.done d h) s₂ in
      let up = not_lt_z (highest_in d) (lowest_in d) (above_order (highest_in d) (lowest_in d) (neg_ℤ (low_in d)) p₂ p ∙ le-ltb (above (highest_in d) (neg_ℤ (low_in d))) (above (lowest_in d) (neg_ℤ (low_in d))) (omega (arith, r.rises, first, last))) in
      record {
        low = p;
        rises = up;
        high = omega (arith, q₂, extent_is d h);
        first = first;
        width = omega (arith, first, last, index_count_lem (lowest_in d) (highest_in d) up, above_chain (highest_in d) (lowest_in d) (neg_ℤ (low_in d)) p up);
      }

  bounded_by : Bounded (length sizes) (box lowest highest)
  unfolding sizes_of
  bounded_by = (length_tabulate g.dims _ ∙ sym (length_tabulate g.dims _), length_tabulate g.dims _ ∙ sym (length_tabulate g.dims _))

  some : 0 < length offsets
  some = omega (arith, offsets_count g.dims w, some_references w b)

  -- 15 does not hold exactly if it does so in every dimension.
  lies_fits : ((d : ℕ) → d < g.dims → LiesIn x.lowest x.highest ls xs d) → bad_box (rectangle sizes) offsets (box lowest highest) ≡ false
  lies_fits f =
      within_fits sizes offsets (sizes_sized g w) some lowest highest bounded_by
      (uncrossed_by g.dims lowest_in highest_in (λ d h. le_z_lt_z (lowest_in d) (highest_in d) (lies d h (f d h)).rises))
      (rw negated_lows (at_least_by g.dims (λ d. neg_ℤ (low_in d)) lowest_in (λ d h. (lies d h (f d h)).low)))
      (rw (counted_from_lem highest_in, extents_are) (below_by g.dims extent_in (λ d. above (highest_in d) (neg_ℤ (low_in d))) (λ d h. (lies d h (f d h)).high)))

  fits_lies : bad_box (rectangle sizes) offsets (box lowest highest) ≡ false → (d : ℕ) → d < g.dims → LiesIn x.lowest x.highest ls xs d
  fits_lies f d h =
      let (p, q, r) = (corners sizes offsets (sizes_sized g w) some lowest highest bounded_by).0 f in
      let at_low = (iteration_within sizes offsets (sizes_sized g w) some lowest highest bounded_by lowest q).0 in
      let at_high = (iteration_within sizes offsets (sizes_sized g w) some lowest highest bounded_by highest r).1 in
      let low = each_at_least g.dims (λ i. neg_ℤ (low_in i)) lowest_in (rw negated_lows at at_low) d h in
      let high = each_below g.dims extent_in (λ i. above (highest_in i) (neg_ℤ (low_in i))) (rw (counted_from_lem highest_in, extents_are) at at_high) d h in
      let up = not_lt_z (highest_in d) (lowest_in d) (each_uncrossed g.dims lowest_in highest_in p d h) in
      let chain = above_chain (highest_in d) (lowest_in d) (neg_ℤ (low_in d)) low up in
      let first = inside_index (lowest_in d) (low_in d) (extent_in d) low (omega arith) in
      let last = inside_index (highest_in d) (low_in d) (extent_in d) (le_z_trans (neg_ℤ (low_in d)) (lowest_in d) (highest_in d) low up) high in
      record {
        first = rw (l.done d h, extent_is d h) (omega (arith, first));
        last = rw (l.done d h, extent_is d h) (omega (arith, last));
        rises = rw (l.done d h, extent_is d h) (omega (arith, first, last));
      }

  stands : x.stood ≡ true → part_of g.dims x ≡ box lowest highest
  unfolding part_of
  stands t = rw t

  -- 15.
  pub refused_box : (m : ℕ) (s : Shape) → Whole g w m s → x.stood ≡ true → Outside x.lowest x.highest ls xs g.dims → Err refusal.BadBox ≡ survey_of g w x
  unfolding survey_of window_checks first_of
  refused_box m s k t (d, h, out) = rw (k.grid, k.count, k.distinct, k.iterates, stands t, go (bad_box (rectangle sizes) offsets (box lowest highest)) refl)
    where
      go : (u : Bool) → bad_box (rectangle sizes) offsets (box lowest highest) ≡ u → bad_box (rectangle sizes) offsets (box lowest highest) ≡ true
      go true f = f
      go false f = absurd (out (fits_lies f d h))

  -- A box that lies among the iterations.
  module _ (m : ℕ) (s : Shape) (p : Placed) (k : Whole g w m s) (t : x.stood ≡ true) (r : PlacedIn x.lowest x.highest ls xs g.dims p) where
    abbrev c : Course
    c = box_course (rectangle sizes) lowest highest

    fits : bad_box (rectangle sizes) offsets (box lowest highest) ≡ false
    fits = lies_fits r.inside

    listed : 0 < count c
    unfolding course no_iteration
    listed = course_some (rectangle sizes) offsets (box lowest highest) bounded_by fits (omega (arith, eqb-false (count (all_iterations (rectangle sizes) offsets)) 0 k.iterates))

    suits : Suits (rectangle sizes) offsets (box lowest highest)
    suits = record { some = some; entries = sizes_sized g w; bounded = bounded_by; fits = fits }

    -- Its widths in an array.
    width_is : (d : ℕ) → d < g.dims → number_at p.widths d ≡ index_count (lowest_in d) (highest_in d)
    width_is d h = r.widths.done d h ∙ (lies d h (r.inside d h)).width

    pub small_widths : Small p.widths g.dims
    unfolding extent
    small_widths d =
        le_trans (part_at_most (number_at p.widths) (number_at g.sizes) d g.dims
        (λ i h. let z = lies i h (r.inside i h) in omega (arith, width_is i h, index_count_lem (lowest_in i) (highest_in i) z.rises, above_chain (highest_in i) (lowest_in i) (neg_ℤ (low_in i)) z.low z.rises, z.high)))
        (small_sizes g w a b d)

    count_is : product (part (number_at p.widths) 0 g.dims) ≡ count c
    unfolding count cell_count rectangular.cell_count box_course box_shape
    count_is =
        ap product (part_all (number_at p.widths) g.dims ∙ tabulate_same g.dims (number_at p.widths) (λ d. index_count (lowest_in d) (highest_in d)) width_is ∙ sym (widths_by g.dims lowest_in highest_in))

    widths_are : p.widths ≡ tabulate 4 (λ d. get_or (ground_sizes c.shape) d 0)
    unfolding box_course box_shape
    widths_are =
        filled_all 4 0 (λ d. last_at x.lowest x.highest ls xs d - first_at x.lowest x.highest ls xs d + 1) (λ d. get_or (widths lowest highest) d 0) g.dims p.widths
        (λ d h. (lies d h (r.inside d h)).width ∙ sym (ap (λ (ws : List ℕ). get_or ws d 0) by_dimension ∙ get_d_tabulate g.dims wide d 0 h))
        (λ d h. get_or-eq_default (widths lowest highest) 0 (rw (by_dimension, length_tabulate g.dims wide) h)) r.widths
      where
        wide : ℕ → ℕ
        wide d = index_count (lowest_in d) (highest_in d)

        by_dimension : widths lowest highest ≡ tabulate g.dims wide
        by_dimension = widths_by g.dims lowest_in highest_in

    -- Its first iteration lies so many cells behind the first of all.
    abbrev pub behind : ℕ
    behind = sum (tabulate g.dims (λ d. number_at p.firsts d * number_at s.strides d))

    behind_is : behind ≡ place sizes (relative lowest (map neg_ℤ (lows sizes offsets)))
    unfolding sizes_of shape_for
    behind_is =
        ap sum (tabulate_same g.dims _ (λ d. above (lowest_in d) (neg_ℤ (low_in d)) * product (part (number_at g.sizes) (d + 1) g.dims))
        (λ d h. ap₂ ◌*◌ (r.firsts.done d h ∙ (lies d h (r.inside d h)).first) (stride_there d h)))
        ∙ sym (place_by_strides g.dims (number_at g.sizes) (λ d. above (lowest_in d) (neg_ℤ (low_in d)))) ∙ ap (place sizes) (sym (counted_from_lem lowest_in))
      where
        stride_there : (d : ℕ) → d < g.dims → number_at s.strides d ≡ product (part (number_at g.sizes) (d + 1) g.dims)
        stride_there d h =
            ap (λ (z : Shape). number_at z.strides d) k.shape_is ∙ get_d_tabulate 4 (λ i. stride sizes i) d 0 (omega (arith, few_dimensions g a)) ∙ stride_behind g.dims (number_at g.sizes) d h

    -- What each reference reads there.
    reads_there : (i : ℕ) → i < w.count → number_at s.at i + behind ≡ position (rectangle sizes) (plus (vector c 0) (get_or offsets i []))
    unfolding shape_for rectangle.reads rectangle.iteration rectangle.position position cell_place vector all_iterations cell_at course box_course
    reads_there i h =
        let q : i < length offsets = omega (arith, offsets_count g.dims w) in
        let whole = ap (λ (z : Shape). number_at z.at i) k.shape_is ∙ get_d_tabulate 32 (λ j. rectangle.reads sizes offsets 0 j) i 0 (omega (arith, few_references w b)) in
        omega (arith, whole, behind_is, first_reads sizes offsets (box lowest highest) suits i listed q)

    pub reads_small : (i : ℕ) → i < w.count → number_at s.at i + behind ≤ most_cells
    unfolding course cell_count
    reads_small i h =
        let q : i < length offsets = omega (arith, offsets_count g.dims w) in
        omega (arith, reads_there i h, few_cells g a, below_cells (rectangle sizes) offsets (box lowest highest) suits 0 i listed q)

    pub behind_small : behind ≤ most_cells
    behind_small = omega (arith, reads_small 0 (some_references w b))

    pub accepted_box : (n : ℕ) (at : List ℕ) → n ≡ product (part (number_at p.widths) 0 g.dims) → Filled 32 0 (λ i. number_at s.at i + behind) w.count at
        → Ok (record { centre = m; shape = record { cells = s.cells; iterations = n; extents = p.widths; strides = s.strides; at = at } }) ≡ survey_of g w x
    unfolding survey_of window_checks first_of course_of course shape_for
    accepted_box n at q f =
        rw (k.grid, k.count, k.distinct, k.iterates, stands t, fits, k.centre_is, k.shape_is, q ∙ count_is, widths_are, positions)
      where
        positions : at ≡ tabulate 32 (λ i. position (rectangle sizes) (plus (vector c 0) (get_or offsets i [])))
        positions =
            filled_all 32 0 (λ i. number_at s.at i + behind) (λ i. position (rectangle sizes) (plus (vector c 0) (get_or offsets i []))) w.count at reads_there
            (λ i h. nothing_read sizes offsets (vector c 0) i (rw (offsets_count g.dims w) h)) f

-- The extents of all iterations.
pub extents_there : (g : Grid) (w : Window) (m : ℕ) (s : Shape) → Whole g w m s → s.extents ≡ tabulate 4 (λ d. get_or (extents (sizes_of g) (offsets_of g.dims w)) d 0)
unfolding shape_for all_iterations
extents_there g w m s k = ap (λ (z : Shape). z.extents) k.shape_is
