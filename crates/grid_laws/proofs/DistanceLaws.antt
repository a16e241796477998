-- Reuse distances: on a rectangle one distance in all iterations, on rows one in all iterations of a row; the largest bounds that of every iteration, and is reached by one.
use Prim.Native.Nat.{ℕ, zero, suc, ◌+◌, ◌-◌, ◌≤◌, ◌<◌}
use mathlib.Core.Bool.{Bool, true, false, cond}
use mathlib.Core.List.{List, [], ◌∷◌, map}
use mathlib.Core.Path.{◌≡◌, refl, sym, ◌∙◌, ap}
use native.Mathlib.Omega.{arith}
use lib.Dec.{ltb, eqb}
use lib.ListN.{length, get_or, length-map, get_or-map}
use lib.IntN.{ℤ, pos, ◌+ℤ◌, +ℤ_assoc, pos-+ℤ-pos}
use borrow.Author.Tests.{ltb-true, ltb-false, eqb-true, eqb-false}
use Rattle.model.specs.Lists.{greatest}
use Rattle.model.specs.Vectors.{plus}
use Rattle.model.specs.Geometry.{natural, counted_from}
use Rattle.model.specs.Grounds.{Row, Ground, row, cells_above, row_cells, row_place, cell_place, cell_count, inside, inside_rows, position, row_at, column_at, cell_at}
use Rattle.model.specs.Grounds.Ground.{rectangle, skewed}
use Rattle.model.specs.Courses.{count, vector, all_iterations}
use Rattle.model.specs.Boxes.{Part, box_shape, box_course, course}
use Rattle.model.specs.Boxes.Part.{whole, box}
use Rattle.model.specs.Sized.{Sized, Suits}
use Rattle.model.specs.Iterations.{firsts_from, firsts}
use Rattle.grid_laws.proofs.Rectangles as rectangle
use Rattle.grid_laws.proofs.ListLaws.{greatest_above, greatest_stands}
use Rattle.grid_laws.proofs.Distances as window
use Rattle.grid_laws.proofs.RowLaws.{Holds, RowCell, inside_row_cell, row_cell_at, above_all}
use Rattle.grid_laws.proofs.GroundLaws.{cell_at_place}
use Rattle.grid_laws.proofs.WholeLaws.{rectangle_iteration}
use Rattle.grid_laws.proofs.Listed.{reads_in, reads_inside, iterates}

-- On rows a cell that lies d columns further on in its row has the position d more.
row_move : (rs : List Row) (x y : ℤ) (d : ℕ) → inside_rows rs (x ∷ y ∷ []) ≡ true → position (skewed rs) (x ∷ (pos d +ℤ y) ∷ []) ≡ d + position (skewed rs) (x ∷ y ∷ [])
unfolding position cell_place row_place natural
row_move rs x y d e = go (inside_row_cell rs (x ∷ y ∷ []) e)
  where
    go : (u : List ℕ) × ((x ∷ y ∷ []) ≡ map pos u) × RowCell rs u → position (skewed rs) (x ∷ (pos d +ℤ y) ∷ []) ≡ d + position (skewed rs) (x ∷ y ∷ [])
    go ([], f, h) = absurd h
    go (i ∷ [], f, h) = absurd h
    go (i ∷ c ∷ b ∷ u, f, h) = absurd h
    go (i ∷ c ∷ [], f, h) =
        let a : x ≡ pos i = cc in
        let b : y ≡ pos c = cc in
        rw (a, b) (omega (arith, h.from))

-- So does what an offset reads.
move_read : (rs : List Row) (first o : List ℤ) (u c d : ℕ) → length first ≡ 2 → length o ≡ 2 → inside_rows rs (plus (counted_from first (u ∷ c ∷ [])) o) ≡ true
    → position (skewed rs) (plus (counted_from first (u ∷ (d + c) ∷ [])) o) ≡ d + position (skewed rs) (plus (counted_from first (u ∷ c ∷ [])) o)
unfolding plus
move_read rs [] o u c d n m e = absurd (omega arith)
move_read rs (x ∷ []) o u c d n m e = absurd (omega arith)
move_read rs (x ∷ y ∷ z ∷ w) o u c d n m e = absurd (omega arith)
move_read rs (x ∷ y ∷ []) [] u c d n m e = absurd (omega arith)
move_read rs (x ∷ y ∷ []) (a ∷ []) u c d n m e = absurd (omega arith)
move_read rs (x ∷ y ∷ []) (a ∷ b ∷ z ∷ w) u c d n m e = absurd (omega arith)
move_read rs (x ∷ y ∷ []) (a ∷ b ∷ []) u c d n m e =
    ap (λ (z : ℤ). position (skewed rs) (((pos u +ℤ x) +ℤ a) ∷ z ∷ []))
    (ap (λ (z : ℤ). (z +ℤ y) +ℤ b) (sym (pos-+ℤ-pos d c)) ∙ ap (λ (z : ℤ). z +ℤ b) (+ℤ_assoc (pos d) (pos c) y) ∙ +ℤ_assoc (pos d) (pos c +ℤ y) b)
    ∙ row_move rs ((pos u +ℤ x) +ℤ a) ((pos c +ℤ y) +ℤ b) d e

-- The first iteration of the row that iteration j stands in is listed among the firsts, and all firsts are iterations.
firsts_has : (from : ℕ) (ss : List Row) (j : ℕ) → j < row_cells ss → (m : ℕ) × (m < length (firsts_from from ss)) × (get_or (firsts_from from ss) m 0 ≡ from + cells_above ss (row_at ss j))
unfolding firsts_from row_cells row_at cells_above
firsts_has from [] j h = absurd (omega arith)
firsts_has from (r ∷ ss) j h = go (eqb r.length 0) refl (ltb j r.length) refl (firsts_has (from + r.length) ss (j - r.length))
  where
    behind : List ℕ
    behind = firsts_from (from + r.length) ss

    go : (b : Bool) → eqb r.length 0 ≡ b → (t : Bool) → ltb j r.length ≡ t
        → (j - r.length < row_cells ss → (m : ℕ) × (m < length behind) × (get_or behind m 0 ≡ from + r.length + cells_above ss (row_at ss (j - r.length))))
        → (m : ℕ) × (m < length (cond b behind (from ∷ behind))) × (get_or (cond b behind (from ∷ behind)) m 0 ≡ from + cells_above (r ∷ ss) (cond t 0 (suc (row_at ss (j - r.length)))))
    go true e true f ih = absurd (omega (arith, eqb-true r.length 0 e, ltb-true j r.length f))
    go true e false f ih = let l = ltb-false j r.length f in let (m, b, d) = ih (omega arith) in (m, b, d ∙ omega arith)
    go false e true f ih = (0, omega arith, omega arith)
    go false e false f ih = let l = ltb-false j r.length f in let (m, b, d) = ih (omega arith) in (suc m, omega arith, d ∙ omega arith)

firsts_below : (from : ℕ) (ss : List Row) (m : ℕ) → m < length (firsts_from from ss) → get_or (firsts_from from ss) m 0 < from + row_cells ss
unfolding firsts_from row_cells
firsts_below from [] m h = absurd (omega arith)
firsts_below from (r ∷ ss) m h = go (eqb r.length 0) refl m h (firsts_below (from + r.length) ss)
  where
    behind : List ℕ
    behind = firsts_from (from + r.length) ss

    go : (b : Bool) → eqb r.length 0 ≡ b → (m : ℕ) → m < length (cond b behind (from ∷ behind)) → ((m : ℕ) → m < length behind → get_or behind m 0 < from + r.length + row_cells ss)
        → get_or (cond b behind (from ∷ behind)) m 0 < from + (r.length + row_cells ss)
    go true e m h ih = omega (arith, ih m h)
    go false e zero h ih = let n = eqb-false r.length 0 e in omega arith
    go false e (suc m) h ih = omega (arith, ih m (omega arith))

-- The first cell of row u.
first_cell_lem : (ss : List Row) (u c : ℕ) → Holds (row ss u) c → cell_at (skewed ss) (cells_above ss u) ≡ u ∷ (row ss u).start ∷ []
unfolding cell_place row_place
first_cell_lem ss u c h =
    ap (cell_at (skewed ss)) (omega arith) ∙ cell_at_place (skewed ss) (u ∷ (row ss u).start ∷ []) (record { from = omega arith; below = omega (arith, h.from, h.below) })

-- A number of each iteration that is the same in all of them on a rectangle, and on rows in all of a row.
abbrev pub Steady : Ground → (ℕ → ℕ) → Type 0
Steady (rectangle ws) d = (j : ℕ) → j < cell_count (rectangle ws) → d j ≡ d 0
Steady (skewed ss) d = (j : ℕ) → j < row_cells ss → d j ≡ d (cells_above ss (row_at ss j))

-- The greatest at the firsts bounds it, and is reached.
pub greatest_first : (shape : Ground) (d : ℕ → ℕ) → Steady shape d → (j : ℕ) → j < cell_count shape → d j ≤ greatest (map d (firsts shape))
unfolding firsts cell_count greatest
greatest_first (rectangle ws) d same j h = omega (arith, same j h)
greatest_first (skewed ss) d same j h =
    let (m, l, e) = firsts_has 0 ss j h in
    let there : get_or (firsts_from 0 ss) m 0 ≡ cells_above ss (row_at ss j) = omega arith in
    omega (
      arith,
      same j h,
      ap d there,
      get_or-map d (firsts_from 0 ss) m 0,
      greatest_above (map d (firsts_from 0 ss)) m (d 0) (rw length-map l),
    )

pub first_reached : (shape : Ground) (d : ℕ → ℕ) → 0 < cell_count shape → (j : ℕ) × (j < cell_count shape) × (d j ≡ greatest (map d (firsts shape)))
unfolding firsts cell_count greatest
first_reached (rectangle ws) d some = (0, some, omega arith)
first_reached (skewed ss) d some =
    let (_, l, _) = firsts_has 0 ss 0 some in
    let (m, h, e) = greatest_stands (map d (firsts_from 0 ss)) (d 0) (rw length-map (omega arith)) in
    let i = rw length-map at h in
    (get_or (firsts_from 0 ss) m 0, omega (arith, firsts_below 0 ss m i), sym (get_or-map d (firsts_from 0 ss) m 0) ∙ e)

-- On rows, of a course whose vectors each offset keeps inside:
module _ (rs : List Row) (offsets : List (List ℤ)) (first : List ℤ) (ss : List Row) (entries : length first ≡ 2) (sized : Sized 2 offsets)
    (each : (j k : ℕ) → j < row_cells ss → k < length offsets → inside_rows rs (plus (counted_from first (cell_at (skewed ss) j)) (get_or offsets k [])) ≡ true) where
  -- The first iteration of the row that iteration j stands in.
  abbrev pub first_of : ℕ → ℕ
  first_of j = cells_above ss (row_at ss j)

  first_below : (j : ℕ) → j < row_cells ss → first_of j < row_cells ss
  first_below j h = let a = row_cell_at ss j h in omega (arith, a.holds.from, a.holds.below, above_all ss (row_at ss j))

  -- Each reference reads as far behind its first cell in the row as the iteration stands behind the first: what lets a run glide row by row.
  pub reads_on : (j k : ℕ) → j < row_cells ss → k < length offsets
      → position (skewed rs) (plus (counted_from first (cell_at (skewed ss) j)) (get_or offsets k []))
      ≡ (column_at ss j - (row ss (row_at ss j)).start) + position (skewed rs) (plus (counted_from first (cell_at (skewed ss) (first_of j))) (get_or offsets k []))
  unfolding cell_at
  reads_on j k h b =
      let a = row_cell_at ss j h in
      let u = row_at ss j in
      let start = (row ss u).start in
      let d = column_at ss j - start in
      let begin = first_cell_lem ss u (column_at ss j) a.holds in
      let o = get_or offsets k [] in
      let at : List ℕ → List ℤ = λ u. plus (counted_from first u) o in
      let column : column_at ss j ≡ d + start = omega (arith, a.holds.from) in
      ap (λ (c : ℕ). position (skewed rs) (at (u ∷ c ∷ []))) column
      ∙ move_read rs first o u start d entries (sized k b) (sym (ap (λ (u : List ℕ). inside_rows rs (at u)) begin) ∙ each (first_of j) k (first_below j h) b)
      ∙ ap (λ (u : List ℕ). d + position (skewed rs) (at u)) (sym begin)

  row_steady : (k : ℕ) → suc k < length offsets
      → Steady (skewed ss) (λ j. position (skewed rs) (plus (counted_from first (cell_at (skewed ss) j)) (get_or offsets k []))
      - position (skewed rs) (plus (counted_from first (cell_at (skewed ss) j)) (get_or offsets (suc k) [])))
  row_steady k b j h = omega (arith, reads_on j k h (omega arith), reads_on j (suc k) h b)

-- On a rectangle, by its sizes.
pub rectangle_distance : (sizes : List ℕ) (offsets : List (List ℤ)) (p : Part) (s : Suits (rectangle sizes) offsets p) → (j k : ℕ) → j < count (course (rectangle sizes) offsets p) → suc k < length offsets
    → reads_in (rectangle sizes) offsets p s j k - reads_in (rectangle sizes) offsets p s j (suc k) ≡ rectangle.distance sizes offsets k
unfolding position cell_place rectangle.reads rectangle.position
rectangle_distance sizes offsets p s j k h b =
    let c = course (rectangle sizes) offsets p in
    let (i, a, e) = window.complete sizes offsets s.entries (vector c j) s.some
    (sym (rectangle_iteration sizes offsets (vector c j)) ∙ iterates (rectangle sizes) offsets p s j h) in
    ap (λ (v : List ℤ). rectangle.position sizes (plus v (get_or offsets k [])) - rectangle.position sizes (plus v (get_or offsets (suc k) []))) e
    ∙ window.same_distance sizes offsets s.entries i k a b

-- The distance of neighbours is steady.
pub distance_steady : (g : Ground) (offsets : List (List ℤ)) (p : Part) (s : Suits g offsets p) (k : ℕ) → suc k < length offsets
    → Steady (course g offsets p).shape (λ j. reads_in g offsets p s j k - reads_in g offsets p s j (suc k))
unfolding course all_iterations box_course box_shape count cell_count vector inside
distance_steady (rectangle sizes) offsets whole s k b = λ j h. rectangle_distance sizes offsets whole s j k h b ∙ sym (rectangle_distance sizes offsets whole s 0 k (omega arith) b)
distance_steady (rectangle sizes) offsets (box l h) s k b = λ j i. rectangle_distance sizes offsets (box l h) s j k i b ∙ sym (rectangle_distance sizes offsets (box l h) s 0 k (omega arith) b)
distance_steady (skewed rs) offsets whole s k b = row_steady rs offsets _ _ refl s.entries (reads_inside (skewed rs) offsets whole s) k b
distance_steady (skewed rs) offsets (box l h) s k b = row_steady rs offsets l _ s.bounded.0 s.entries (reads_inside (skewed rs) offsets (box l h) s) k b
