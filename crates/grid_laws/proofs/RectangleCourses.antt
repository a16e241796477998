-- Laws of the iterations that a run covers on a rectangle: each is one of all iterations, so all references read as far behind their first cells as the iteration lies behind the first.
use Prim.Native.Nat.{ℕ, suc, ◌+◌, ◌-◌, ◌<◌}
use mathlib.Core.List.{List, [], ◌∷◌, map}
use mathlib.Core.Path.{◌≡◌, refl, sym, ◌∙◌, ap, ap₂}
use native.Mathlib.Nat.{suc_inj, zero-div, zero-mod}
use native.Mathlib.Omega.{arith}
use lib.ListN.{length, get_or}
use lib.IntN.{ℤ, pos, negsuc, neg_ℤ, ◌+ℤ◌}
use Rattle.model.specs.Lists.{product}
use Rattle.model.specs.Vectors.{plus}
use Rattle.model.specs.Geometry.{place, lows, extents, indices, counted_from}
use Rattle.model.specs.Geometry as rectangular
use Rattle.model.specs.Grounds.{ground_sizes, cell_count, cell_place, position, cell_at}
use Rattle.model.specs.Grounds.Ground.{rectangle}
use Rattle.model.specs.Courses.{Course, count, vector, all_iterations}
use Rattle.model.specs.Boxes.{Part, box_shape, box_course, course}
use Rattle.model.specs.Boxes.Part.{whole, box}
use Rattle.model.specs.Windows.{relative}
use Rattle.model.specs.Sized.{Bounded, Suits}
use Rattle.grid_laws.proofs.Rectangles as rectangle
use Rattle.grid_laws.proofs.IntegerLaws.{sub_small}
use Rattle.grid_laws.proofs.PlaceLaws.{add, AtLeast, place_add, indices_below, first_indices}
use Rattle.grid_laws.proofs.WindowLaws.{extents_within, length_extents}
use Rattle.grid_laws.proofs.IterationLaws.{entry_each, iteration_at_least, relative_iteration}
use Rattle.grid_laws.proofs.Distances as window
use Rattle.grid_laws.proofs.BoxLaws.{length_widths}
use Rattle.grid_laws.proofs.RectangleBoxes.{relative_counted}
use Rattle.grid_laws.proofs.WholeLaws.{rectangle_iteration}
use Rattle.grid_laws.proofs.Listed.{iterates, reads_in}

-- How many indices the iterations of a run have in each dimension.
abbrev pub widths_of : List ℕ → List (List ℤ) → Part → List ℕ
widths_of sizes offsets p = ground_sizes (course (rectangle sizes) offsets p).shape

module _ (sizes : List ℕ) (offsets : List (List ℤ)) where
  pub rectangle_shape : (p : Part) → (course (rectangle sizes) offsets p).shape ≡ rectangle (widths_of sizes offsets p)
  unfolding course all_iterations box_course box_shape
  rectangle_shape whole = refl
  rectangle_shape (box l h) = refl

  pub entries : (p : Part) → Bounded (length sizes) p → length (widths_of sizes offsets p) ≡ length (course (rectangle sizes) offsets p).first
  unfolding course all_iterations box_course box_shape
  entries whole b = entry_each sizes offsets
  entries (box l h) b = length_widths l h (b.0 ∙ sym b.1)

  pub length_course : (p : Part) → Bounded (length sizes) p → length (widths_of sizes offsets p) ≡ length sizes
  unfolding course all_iterations box_course box_shape
  length_course whole b = length_extents sizes offsets
  length_course (box l h) b = length_widths l h (b.0 ∙ sym b.1) ∙ b.0

  -- They are the vectors of a box of these widths.
  pub count_product : (p : Part) → count (course (rectangle sizes) offsets p) ≡ product (widths_of sizes offsets p)
  unfolding count cell_count rectangular.cell_count
  count_product p = ap cell_count (rectangle_shape p)

  vector_counted : (p : Part) (j : ℕ) → vector (course (rectangle sizes) offsets p) j ≡ counted_from (course (rectangle sizes) offsets p).first (indices (widths_of sizes offsets p) j)
  unfolding vector cell_at
  vector_counted p j = ap (λ g. counted_from (course (rectangle sizes) offsets p).first (cell_at g j)) (rectangle_shape p)

-- What is counted by number 0 is the first vector.
counted_zero : (xs : List ℤ) (es : List ℕ) → length es ≡ length xs → counted_from xs (indices es 0) ≡ xs
unfolding plus indices
counted_zero [] [] n = refl
counted_zero (x ∷ xs) [] n = absurd (omega arith)
counted_zero [] (e ∷ es) n = absurd (omega arith)
counted_zero (x ∷ xs) (e ∷ es) n = rw (zero-div (product es), zero-mod (product es)) (ap₂ ◌∷◌ (none_more x) (counted_zero xs es (suc_inj n)))
  where
    none_more : (x : ℤ) → pos 0 +ℤ x ≡ x
    none_more (pos n) = ap pos (omega arith)
    none_more (negsuc n) = sub_small 0 (suc n) (omega arith) ∙ ap negsuc (omega arith)

module _ (sizes : List ℕ) (offsets : List (List ℤ)) (p : Part) (s : Suits (rectangle sizes) offsets p) where
  abbrev c : Course
  c = course (rectangle sizes) offsets p

  abbrev ws : List ℕ
  ws = widths_of sizes offsets p

  abbrev reads : (j k : ℕ) → ℕ
  reads j k = reads_in (rectangle sizes) offsets p s j k

  -- Which of all iterations iteration j of the run is.
  at : (j : ℕ) → j < count c → (i : ℕ) × (i < rectangle.iteration_count sizes offsets) × (vector c j ≡ rectangle.iteration sizes offsets i)
  at j h = window.complete sizes offsets s.entries (vector c j) s.some (sym (rectangle_iteration sizes offsets (vector c j)) ∙ iterates (rectangle sizes) offsets p s j h)

  reads_at : (j k : ℕ) (h : j < count c) → reads j k ≡ rectangle.reads sizes offsets (at j h).0 k
  unfolding rectangle.reads rectangle.position position cell_place
  reads_at j k h = ap (λ (v : List ℤ). rectangle.position sizes (plus v (get_or offsets k []))) (at j h).2

  -- Its indices among all are those of the run's first and its own in the run, added up.
  indices_at : (j : ℕ) (h : j < count c) → indices (extents sizes offsets) (at j h).0 ≡ add (relative c.first (map neg_ℤ (lows sizes offsets))) (indices ws j)
  indices_at j h =
      sym (relative_iteration sizes offsets (at j h).0) ∙ ap (λ (v : List ℤ). relative v (map neg_ℤ (lows sizes offsets))) (sym (at j h).2 ∙ vector_counted sizes offsets p j)
      ∙ relative_counted (indices ws j) first_at_least
    where
      first_at_least : AtLeast (map neg_ℤ (lows sizes offsets)) c.first
      first_at_least =
          let z : 0 < count c = omega arith in
          rw (sym (at 0 z).2 ∙ vector_counted sizes offsets p 0 ∙ counted_zero c.first ws (entries sizes offsets p s.bounded)) at (iteration_at_least sizes offsets (at 0 z).0)

  reads_sum : (j k : ℕ) → j < count c → k < length offsets
      → reads j k ≡ place sizes (relative (get_or offsets k []) (lows sizes offsets)) + (place sizes (relative c.first (map neg_ℤ (lows sizes offsets))) + place sizes (indices ws j))
  unfolding rectangle.iteration_count
  reads_sum j k h b =
      let i = (at j h).0 in
      let below = extents_within sizes offsets _ (indices_below (extents sizes offsets) i (at j h).1) in
      let apart = place_add sizes (relative c.first (map neg_ℤ (lows sizes offsets))) (indices ws j) (rw (indices_at j h) at below) in
      omega (arith, reads_at j k h, window.reads_sum sizes offsets s.entries i k (at j h).1 b, ap (place sizes) (indices_at j h), apart)

  -- In iteration j of the run each reference reads as far behind its first position as the iteration's indices lie.
  pub reads_from_first : (j k : ℕ) → j < count c → k < length offsets → reads j k ≡ reads 0 k + place sizes (indices ws j)
  reads_from_first j k h b = omega (arith, reads_sum j k h b, reads_sum 0 k (omega arith) b, first_indices sizes ws)

  -- In the run's first iteration it reads as far behind its first position of all as that iteration lies behind the first of all.
  pub first_reads : (k : ℕ) → 0 < count c → k < length offsets
      → reads 0 k ≡ rectangle.reads sizes offsets 0 k + place sizes (relative c.first (map neg_ℤ (lows sizes offsets)))
  first_reads k h b =
      omega (
        arith,
        reads_sum 0 k h b,
        first_indices sizes ws,
        window.reads_sum sizes offsets s.entries 0 k (omega (arith, (at 0 h).1)) b,
        first_indices sizes (extents sizes offsets),
      )

  -- Two references read equally far apart in all iterations.
  pub one_distance : (i j k l : ℕ) → i < count c → j < count c → k < length offsets → l < length offsets → reads i k + reads j l ≡ reads j k + reads i l
  one_distance i j k l a b g h = omega (arith, reads_sum i k a g, reads_sum j l b h, reads_sum j k b g, reads_sum i l a h)
