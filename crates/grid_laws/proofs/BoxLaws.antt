-- Laws of a smaller box: its vectors, and when 15 does not hold.
use Prim.Native.Nat.{ℕ, zero, suc, ◌<◌}
use mathlib.Core.Bool.{Bool, true, false, not, ◌&&◌, ◌||◌, and-eq-true_iff, true≢false}
use mathlib.Core.List.{List, [], ◌∷◌}
use mathlib.Core.Logic.{◌↔◌}
use mathlib.Core.Path.{◌≡◌, refl, sym, ◌∙◌, ap, ap₂}
use native.Mathlib.Nat.{suc_inj}
use native.Mathlib.Decide.{ℕ_discrete}
use native.Mathlib.Omega.{arith}
use lib.Dec.{ltb}
use lib.ListN.{length}
use lib.IntN.{ℤ, pos, ◌+ℤ◌}
use lib.Signed.{lt_z, le_z}
use borrow.Author.Tests.{le-ltb}
use Rattle.model.specs.Lists.{some_below}
use Rattle.model.specs.Vectors.{above, plus}
use Rattle.model.specs.Geometry.{counted_from}
use Rattle.model.specs.Grounds.{Ground, row, no_row, dims, cell_at, is_iteration}
use Rattle.model.specs.Grounds.Ground.{rectangle, skewed}
use Rattle.model.specs.Courses.{Course, count, vector}
use Rattle.model.specs.Boxes.{between, index_count, widths, equal_rows, box_shape, box_course, crossed, reads_outside, bad_box}
use Rattle.model.specs.Boxes.Part.{whole, box}
use Rattle.model.specs.Windows.{relative}
use Rattle.model.specs.Sized.{Bounded}
use Rattle.grid_laws.proofs.Tests.{neither}
use Rattle.grid_laws.proofs.ListLaws.{length_tabulate, get_d_tabulate}
use Rattle.grid_laws.proofs.IntegerLaws.{le_z_refl, le_z_trans, not_lt_z, above_back, above_order, above_chain, sum_above, sum_at_least}
use Rattle.grid_laws.proofs.PlaceLaws.{Below}
use Rattle.grid_laws.proofs.RowLaws.{RowCell, row_there}
use Rattle.grid_laws.proofs.GroundLaws.{Cell, at_cell}
use Rattle.grid_laws.proofs.CourseLaws.{cell_listed}

-- Where no number below n passes a test, none does, and the other way round.
pub none_below : (n : ℕ) (p : ℕ → Bool) → some_below n p ≡ false → (j : ℕ) → j < n → p j ≡ false
unfolding some_below
none_below zero p e j h = absurd (omega arith)
none_below (suc n) p e j h = go (ℕ_discrete j n) (none_below n p (neither (p n) (some_below n p) e).1 j)
  where
    go : Dec (j ≡ n) → (j < n → p j ≡ false) → p j ≡ false
    go (yes d) f = ap p d ∙ (neither (p n) (some_below n p) e).0
    go (no d) f = f (omega arith)

pub below_none : (n : ℕ) (p : ℕ → Bool) → ((j : ℕ) → j < n → p j ≡ false) → some_below n p ≡ false
unfolding some_below
below_none zero p f = refl
below_none (suc n) p f = rw (f n (omega arith)) (below_none n p (λ j h. f j (omega arith)))

-- In one dimension.
pub not_crossed : (l h : ℤ) (b : Bool) → lt_z h l || b ≡ false → (le_z l h ≡ true) × (b ≡ false)
not_crossed l h b e = let (x, y) = neither (lt_z h l) b e in (not_lt_z h l x, y)

pub index_count_lem : (l h : ℤ) → le_z l h ≡ true → index_count l h ≡ suc (above h l)
unfolding index_count
index_count_lem l h e = rw e

index_within : (l h : ℤ) (u : ℕ) → le_z l h ≡ true → u < index_count l h → le_z (pos u +ℤ l) h ≡ true
index_within l h u e b =
    not_lt_z h (pos u +ℤ l) (above_order h (pos u +ℤ l) l e (sum_at_least u l) ∙ ap (ltb (above h l)) (sum_above u l) ∙ le-ltb (above h l) u (omega (arith, index_count_lem l h e)))

index_listed : (l h x : ℤ) → le_z l x ≡ true → le_z x h ≡ true → above x l < index_count l h
index_listed l h x p q =
    let e = le_z_trans l x h p q in
    omega (arith, index_count_lem l h e, above_chain h x l p q)

-- The widths of a box, and its vectors.
pub length_widths : (l h : List ℤ) → length l ≡ length h → length (widths l h) ≡ length l
unfolding widths
length_widths [] h n = refl
length_widths (x ∷ l) [] n = absurd (omega arith)
length_widths (x ∷ l) (y ∷ h) n = ap suc (length_widths l h (suc_inj n))

-- Where no lowest is above its highest, what is counted from the lowest by indices below the widths lies in the box, and what lies in the box is so counted.
pub counted_between : (l h : List ℤ) (us : List ℕ) → length l ≡ length h → crossed l h ≡ false → Below (widths l h) us → between l h (counted_from l us) ≡ true
unfolding widths crossed between plus
counted_between [] [] [] n e b = refl
counted_between [] [] (u ∷ us) n e b = absurd b
counted_between [] (y ∷ h) us n e b = absurd (omega arith)
counted_between (x ∷ l) [] us n e b = absurd (omega arith)
counted_between (x ∷ l) (y ∷ h) [] n e b = absurd b
counted_between (x ∷ l) (y ∷ h) (u ∷ us) n e b =
    let (p, q) = not_crossed x y (crossed l h) e in
    rw (sum_at_least u x, index_within x y u p b.0) (counted_between l h us (suc_inj n) q b.1)

pub between_counted : (l h v : List ℤ) → between l h v ≡ true → Below (widths l h) (relative v l) × (v ≡ counted_from l (relative v l))
unfolding widths between plus relative
between_counted [] [] [] e = (tt, refl)
between_counted [] [] (z ∷ v) e = absurd (true≢false (sym e))
between_counted [] (y ∷ h) v e = absurd (true≢false (sym e))
between_counted (x ∷ l) [] v e = absurd (true≢false (sym e))
between_counted (x ∷ l) (y ∷ h) [] e = absurd (true≢false (sym e))
between_counted (x ∷ l) (y ∷ h) (z ∷ v) e =
    let (p, rest) = (and-eq-true_iff (le_z x z) (le_z z y && between l h v)).0 e in
    let (q, r) = (and-eq-true_iff (le_z z y) (between l h v)).0 rest in
    let (b, f) = between_counted l h v r in
    ((index_listed x y z p q, b), ap₂ ◌∷◌ (sym (above_back z x p)) f)

-- The highest lies in the box.
pub highest_between : (l h : List ℤ) → length l ≡ length h → crossed l h ≡ false → between l h h ≡ true
unfolding crossed between
highest_between [] [] n e = refl
highest_between [] (y ∷ h) n e = absurd (omega arith)
highest_between (x ∷ l) [] n e = absurd (omega arith)
highest_between (x ∷ l) (y ∷ h) n e =
    let (p, q) = not_crossed x y (crossed l h) e in
    rw (p, le_z_refl y) (highest_between l h (suc_inj n) q)

pub lowest_between : (l h : List ℤ) → length l ≡ length h → crossed l h ≡ false → between l h l ≡ true
unfolding crossed between
lowest_between [] [] n e = refl
lowest_between [] (y ∷ h) n e = absurd (omega arith)
lowest_between (x ∷ l) [] n e = absurd (omega arith)
lowest_between (x ∷ l) (y ∷ h) n e =
    let (p, q) = not_crossed x y (crossed l h) e in
    rw (le_z_refl x, p) (lowest_between l h (suc_inj n) q)

-- Equal rows have the cells of the rectangle.
equal_row : (n w i : ℕ) → i < n → row (equal_rows (n ∷ w ∷ [])) i ≡ record { start = 0; length = w }
unfolding equal_rows
equal_row n w i h = get_d_tabulate n (λ _. record { start = 0; length = w }) i no_row h

equal_cell : (n w : ℕ) (u : List ℕ) → RowCell (equal_rows (n ∷ w ∷ [])) u → Below (n ∷ w ∷ []) u
unfolding equal_rows
equal_cell n w [] h = absurd h
equal_cell n w (i ∷ []) h = absurd h
equal_cell n w (i ∷ c ∷ d ∷ u) h = absurd h
equal_cell n w (i ∷ c ∷ []) h =
    let there : i < n = rw length_tabulate at (row_there (equal_rows (n ∷ w ∷ [])) i c h) in
    let here = rw (equal_row n w i there) at h in
    (there, (omega (arith, here.below), tt))

cell_equal : (n w : ℕ) (u : List ℕ) → Below (n ∷ w ∷ []) u → RowCell (equal_rows (n ∷ w ∷ [])) u
cell_equal n w [] h = absurd h
cell_equal n w (i ∷ []) h = absurd h.1
cell_equal n w (i ∷ c ∷ []) h = rw (equal_row n w i h.0) (record { from = omega arith; below = omega arith })
cell_equal n w (i ∷ c ∷ d ∷ u) h = absurd h.1.1

-- On either ground the cells of a box's shape are those below its widths.
box_cell : (g : Ground) (l h : List ℤ) → Bounded (dims g) (box l h) → (u : List ℕ) → Cell (box_course g l h).shape u ↔ Below (widths l h) u
unfolding box_course box_shape widths
box_cell (rectangle ss) l h b u = (λ c. c, λ c. c)
box_cell (skewed rs) (k ∷ l ∷ []) (h ∷ i ∷ []) b u = (equal_cell (index_count k h) (index_count l i) u, cell_equal (index_count k h) (index_count l i) u)
box_cell (skewed rs) [] h b u = absurd (omega (arith, b.0))
box_cell (skewed rs) (k ∷ []) h b u = absurd (omega (arith, b.0))
box_cell (skewed rs) (k ∷ l ∷ j ∷ ls) h b u = absurd (omega (arith, b.0))
box_cell (skewed rs) (k ∷ l ∷ []) [] b u = absurd (omega (arith, b.1))
box_cell (skewed rs) (k ∷ l ∷ []) (h ∷ []) b u = absurd (omega (arith, b.1))
box_cell (skewed rs) (k ∷ l ∷ []) (h ∷ i ∷ j ∷ hs) b u = absurd (omega (arith, b.1))

-- The first vector has an entry for each dimension of the shape, which are those of the ground.
pub box_dims : (g : Ground) (l h : List ℤ) → Bounded (dims g) (box l h)
    → (length (box_course g l h).first ≡ dims (box_course g l h).shape) × (dims (box_course g l h).shape ≡ dims g)
unfolding box_course box_shape
box_dims (rectangle ss) l h b = let e = length_widths l h (b.0 ∙ sym b.1) in (sym e, e ∙ b.0)
box_dims (skewed rs) l h b = (b.0, refl)

module _ (g : Ground) (l h : List ℤ) (bounded : Bounded (dims g) (box l h)) where
  abbrev c : Course
  c = box_course g l h

  alike : length l ≡ length h
  alike = bounded.0 ∙ sym bounded.1

  -- Each vector of the box's course lies in the box,
  pub vector_between : crossed l h ≡ false → (j : ℕ) → j < count c → between l h (vector c j) ≡ true
  unfolding count vector box_course
  vector_between e j b = counted_between l h (cell_at c.shape j) alike e ((box_cell g l h bounded (cell_at c.shape j)).0 (at_cell c.shape j b))

  -- and each vector that lies in the box is listed.
  pub between_listed : (v : List ℤ) → between l h v ≡ true → (j : ℕ) × (j < count c) × (v ≡ vector c j)
  unfolding box_course
  between_listed v e =
      let (b, f) = between_counted l h v e in
      let (j, i, d) = cell_listed c (relative v l) ((box_cell g l h bounded (relative v l)).1 b) in
      (j, i, f ∙ sym d)

  -- So a box whose lowest are not above its highest has a vector.
  pub some_vector : crossed l h ≡ false → 0 < count c
  some_vector e = let (j, i, _) = between_listed l (lowest_between l h alike e) in omega arith

  module _ (offsets : List (List ℤ)) where
    -- Where 15 does not hold, no lowest is above its highest, and each vector of the box is an iteration;
    pub box_passes : bad_box g offsets (box l h) ≡ false → (crossed l h ≡ false) × ((j : ℕ) → j < count c → is_iteration g offsets (vector c j) ≡ true)
    unfolding bad_box reads_outside
    box_passes e =
        let (a, b) = neither (crossed l h) (reads_outside g offsets c) e in
        (a, λ j i. go (is_iteration g offsets (vector c j)) (none_below (count c) _ b j i))
      where
        go : (t : Bool) → not t ≡ false → t ≡ true
        go true f = refl
        go false f = absurd (true≢false f)

    -- and the other way round.
    pub passes_box : crossed l h ≡ false → ((j : ℕ) → j < count c → is_iteration g offsets (vector c j) ≡ true) → bad_box g offsets (box l h) ≡ false
    unfolding bad_box reads_outside
    passes_box e f = rw e (below_none (count c) _ (λ j i. ap not (f j i)))

    -- 15 does not hold exactly if no lowest is above its highest and each vector of the box is an iteration.
    pub each_of_box : bad_box g offsets (box l h) ≡ false ↔ ((crossed l h ≡ false) × ((v : List ℤ) → between l h v ≡ true → is_iteration g offsets v ≡ true))
    each_of_box = (
      λ e. ((box_passes e).0, λ v b. let (j, i, f) = between_listed v b in rw f ((box_passes e).1 j i)),
      λ k. passes_box k.0 (λ j i. k.1 (vector c j) (vector_between k.0 j i)),
    )

-- Without a box it never holds.
pub none_whole : (g : Ground) (offsets : List (List ℤ)) → bad_box g offsets whole ≡ false
unfolding bad_box
none_whole g offsets = refl
