-- Laws of a smaller box on a rectangle: the corners decide whether it fits.
use Prim.Native.Nat.{ℕ, zero, suc, ◌+◌, ◌-◌, ◌*◌, ◌<◌}
use mathlib.Core.Bool.{true, false}
use mathlib.Core.List.{List, [], ◌∷◌, map}
use mathlib.Core.Logic.{◌↔◌}
use mathlib.Core.Path.{◌≡◌, refl, sym, ◌∙◌, ap, ap₂}
use native.Mathlib.Nat.{suc_inj}
use native.Mathlib.Omega.{arith}
use lib.ListN.{length, length-map}
use lib.IntN.{ℤ, pos, neg_ℤ, ◌+ℤ◌}
use lib.Signed.{le_z}
use Rattle.model.specs.Lists.{product}
use Rattle.model.specs.Vectors.{above, plus}
use Rattle.model.specs.Geometry.{lows, extents, indices, counted_from, place}
use Rattle.model.specs.Geometry as rectangular
use Rattle.model.specs.Grounds.{is_iteration, cell_count, cell_at}
use Rattle.model.specs.Grounds.Ground.{rectangle}
use Rattle.model.specs.Courses.{Course, count, vector, all_iterations}
use Rattle.model.specs.Boxes.{index_count, widths, box_shape, box_course, course, crossed, bad_box, full_box}
use Rattle.model.specs.Boxes.Part.{whole, box}
use Rattle.model.specs.Windows.{relative}
use Rattle.model.specs.Sized.{Sized, Bounded}
use Rattle.grid_laws.proofs.Rectangles.{iteration_count, iteration}
use Rattle.grid_laws.proofs.IntegerLaws.{le_z_refl, le_z_trans, le_z_lt_z, above_back, above_more, above_chain, sum_above, sum_at_least}
use Rattle.grid_laws.proofs.PlaceLaws.{Below, add, AtLeast, indices_below, place_below, place_indices, place_injective}
use Rattle.grid_laws.proofs.PlaceLaws.AtLeast.{none, next}
use Rattle.grid_laws.proofs.IterationLaws.{entry_each, counted_relative, length_counted, iteration_at_least, relative_iteration}
use Rattle.grid_laws.proofs.WindowLaws.{length_lows}
use Rattle.grid_laws.proofs.Distances.{listed, complete}
use Rattle.grid_laws.proofs.BoxLaws.{index_count_lem, not_crossed, lowest_between, highest_between, passes_box, each_of_box}
use Rattle.grid_laws.proofs.WholeLaws.{rectangle_iteration}

-- Counted from m, what is counted from l lies further on by how far l lies above m.
pub relative_counted : {m l : List ℤ} (us : List ℕ) → AtLeast m l → relative (counted_from l us) m ≡ add (relative l m) us
unfolding relative plus add
relative_counted [] none = refl
relative_counted [] (next h a) = refl
relative_counted (u ∷ us) none = refl
relative_counted (u ∷ us) (next {l = m} {x = l} h a) = ap₂ ◌∷◌ (above_more u l m h) (relative_counted us a)

counted_further : {m l : List ℤ} (us : List ℕ) → AtLeast m l → counted_from l us ≡ counted_from m (add (relative l m) us)
unfolding relative plus add
counted_further [] none = refl
counted_further [] (next h a) = refl
counted_further (u ∷ us) none = refl
counted_further (u ∷ us) (next {l = m} {x = l} h a) = ap₂ ◌∷◌ (further u l m h) (counted_further us a)
  where
    further : (u : ℕ) (l m : ℤ) → le_z m l ≡ true → pos u +ℤ l ≡ pos (above l m + u) +ℤ m
    further u l m h =
        let k = le_z_trans m l (pos u +ℤ l) h (sum_at_least u l) in
        sym (above_back (pos u +ℤ l) m k) ∙ ap (λ (n : ℕ). pos n +ℤ m) (above_more u l m h)

-- A box from l on, whose highest lies below the extents counted from m, has all its vectors below them.
further_below : (es : List ℕ) {m l : List ℤ} (h : List ℤ) (us : List ℕ) → AtLeast m l → length l ≡ length h → crossed l h ≡ false → Below es (relative h m) → Below (widths l h) us
    → Below es (add (relative l m) us)
unfolding relative widths crossed add
further_below [] [] us none n e b c = tt
further_below [] (y ∷ h) us none n e b c = absurd (omega arith)
further_below (x ∷ es) [] us none n e b c = absurd b
further_below (x ∷ es) (y ∷ h) us none n e b c = absurd (omega arith)
further_below es [] us (next k a) n e b c = absurd (omega arith)
further_below [] (y ∷ h) us (next k a) n e b c = absurd b
further_below (x ∷ es) (y ∷ h) [] (next k a) n e b c = absurd c
further_below (x ∷ es) (y ∷ h) (u ∷ us) (next {l = m} {x = l} {xs = ls} k a) n e b c =
    let (p, q) = not_crossed l y (crossed ls h) e in
    (omega (arith, b.0, c.0, index_count_lem l y p, above_chain y l m k p), further_below es h us a (suc_inj n) q b.1 c.1)

-- 15 of a box, where the window has an offset and both fit the grid.
module _ (sizes : List ℕ) (offsets : List (List ℤ)) (sized : Sized (length sizes) offsets) (some : 0 < length offsets) (l h : List ℤ) (bounded : Bounded (length sizes) (box l h)) where
  abbrev m : List ℤ
  m = map neg_ℤ (lows sizes offsets)

  alike : length l ≡ length h
  alike = bounded.0 ∙ sym bounded.1

  -- What is counted from the first iteration by indices below the extents is an iteration.
  below_iterates : (us : List ℕ) → Below (extents sizes offsets) us → is_iteration (rectangle sizes) offsets (counted_from m us) ≡ true
  unfolding iteration_count iteration rectangular.cell_count
  below_iterates us b =
      let es = extents sizes offsets in
      let j = place es us in
      let below = place_below es us b in
      let same = place_injective es us (indices es j) b (indices_below es j below) (sym (place_indices es j below)) in
      rectangle_iteration sizes offsets (counted_from m us) ∙ rw same (listed sizes offsets sized j below)

  -- Counted from the first iteration: the lowest is at least that, and the highest lies below the extents; where both hold, so does each vector of the box.
  pub within_fits : crossed l h ≡ false → AtLeast m l → Below (extents sizes offsets) (relative h m) → bad_box (rectangle sizes) offsets (box l h) ≡ false
  unfolding count vector box_course box_shape cell_count cell_at rectangular.cell_count
  within_fits e a b =
      passes_box (rectangle sizes) l h bounded offsets e (λ j i.
      let us = indices (widths l h) j in
      rw (counted_further us a) (below_iterates (add (relative l m) us) (further_below (extents sizes offsets) h us a alike e b (indices_below (widths l h) j i))))

  -- An iteration is so counted.
  pub iteration_within : (v : List ℤ) → is_iteration (rectangle sizes) offsets v ≡ true → AtLeast m v × Below (extents sizes offsets) (relative v m)
  unfolding iteration_count
  iteration_within v e =
      let (j, b, f) = complete sizes offsets sized v some (sym (rectangle_iteration sizes offsets v) ∙ e) in
      rw f (iteration_at_least sizes offsets j, rw (relative_iteration sizes offsets j) (indices_below (extents sizes offsets) j b))

  -- The corners decide.
  pub corners : bad_box (rectangle sizes) offsets (box l h) ≡ false
      ↔ ((crossed l h ≡ false) × (is_iteration (rectangle sizes) offsets l ≡ true) × (is_iteration (rectangle sizes) offsets h ≡ true))
  corners = (
    λ e. let (a, each) = (each_of_box (rectangle sizes) l h bounded offsets).0 e in (a, each l (lowest_between l h alike a), each h (highest_between l h alike a)),
    λ k. within_fits k.0 (iteration_within l k.1).0 (iteration_within h k.2).1,
  )

-- The full box has the course of none.
full_widths : (xs : List ℤ) (es : List ℕ) → length es ≡ length xs → 0 < product es → widths xs (counted_from xs (map (λ e. e - 1) es)) ≡ es
unfolding widths plus product
full_widths [] [] n s = refl
full_widths (x ∷ xs) [] n s = absurd (omega arith)
full_widths [] (e ∷ es) n s = absurd (omega arith)
full_widths (x ∷ xs) (zero ∷ es) n s = absurd (omega arith)
full_widths (x ∷ xs) (suc e ∷ es) n s = ap₂ ◌∷◌ (full x (suc e - 1) e (omega arith)) (full_widths xs es (suc_inj n) (behind (product es) s))
  where
    full : (x : ℤ) (k e : ℕ) → k ≡ e → index_count x (pos k +ℤ x) ≡ suc e
    full x k e d = index_count_lem x (pos k +ℤ x) (sum_at_least k x) ∙ ap suc (sum_above k x ∙ d)

    behind : (q : ℕ) → 0 < suc e * q → 0 < q
    behind zero h = omega arith
    behind (suc q) h = omega arith

pub full_course : (sizes : List ℕ) (offsets : List (List ℤ)) → 0 < iteration_count sizes offsets → course (rectangle sizes) offsets (full_box sizes offsets) ≡ course (rectangle sizes) offsets whole
unfolding course full_box box_course box_shape all_iterations iteration_count
full_course sizes offsets s =
    let first = map neg_ℤ (lows sizes offsets) in
    ap (λ (es : List ℕ). let whole : Course = record { first = first; shape = rectangle es } in whole) (full_widths first (extents sizes offsets) (entry_each sizes offsets) s)

-- 15 does not hold of it.
full_uncrossed : (xs : List ℤ) (us : List ℕ) → crossed xs (counted_from xs us) ≡ false
unfolding crossed plus
full_uncrossed [] us = refl
full_uncrossed (x ∷ xs) [] = refl
full_uncrossed (x ∷ xs) (u ∷ us) = rw (le_z_lt_z x (pos u +ℤ x) (sum_at_least u x)) (full_uncrossed xs us)

full_below : (es : List ℕ) → 0 < product es → Below es (map (λ e. e - 1) es)
unfolding product
full_below [] s = tt
full_below (zero ∷ es) s = absurd (omega arith)
full_below (suc e ∷ es) s = (omega arith, full_below es (behind (product es) s))
  where
    behind : (q : ℕ) → 0 < suc e * q → 0 < q
    behind zero h = omega arith
    behind (suc q) h = omega arith

at_least_self : (xs : List ℤ) → AtLeast xs xs
at_least_self [] = none
at_least_self (x ∷ xs) = next (le_z_refl x) (at_least_self xs)

pub full_fits : (sizes : List ℕ) (offsets : List (List ℤ)) → Sized (length sizes) offsets → 0 < length offsets → 0 < iteration_count sizes offsets → bad_box (rectangle sizes) offsets (full_box sizes offsets) ≡ false
unfolding full_box iteration_count
full_fits sizes offsets sized some s =
    let first = map neg_ℤ (lows sizes offsets) in
    let es = extents sizes offsets in
    let us = map (λ e. e - 1) es in
    let long : length us ≡ length first = length-map es (λ e. e - 1) ∙ entry_each sizes offsets in
    let same : length first ≡ length sizes = length-map (lows sizes offsets) neg_ℤ ∙ length_lows sizes offsets in
    within_fits sizes offsets sized some first (counted_from first us) (same, length_counted first us long ∙ long ∙ same) (full_uncrossed first us) (at_least_self first)
    (rw (counted_relative first us long) (full_below es s))
