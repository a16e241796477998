-- A smaller box (document 02, request 4): which iterations a run covers, and number 15.
use Rattle.std.specs.Prelude.{ℕ, suc, ◌-◌, Bool, true, false, cond, not, ◌&&◌, ◌||◌, List, [], ◌∷◌, map, ℤ, neg_ℤ}
use Rattle.std.specs.Int.Signed.{lt_z, le_z}
use Rattle.model.specs.Lists.{tabulate, some_below}
use Rattle.model.specs.Vectors.{above}
use Rattle.model.specs.Geometry.{lows, extents, counted_from}
use Rattle.model.specs.Grounds.{Row, Ground, is_iteration}
use Rattle.model.specs.Grounds.Ground.{rectangle, skewed}
use Rattle.model.specs.Courses.{Course, count, vector, all_iterations}

-- Which iterations a run covers: all of them, or those of a box, given by "the lowest, then the highest index of the
-- iterations" in each dimension.
pub data Part : Type 0 where
  whole : Part
  box : (lowest highest : List ℤ) → Part

-- The vector lies in the box.
unfoldable pub between : (lowest highest : List ℤ) → List ℤ → Bool
between [] [] [] = true
between [] [] (x ∷ xs) = false
between [] (h ∷ hs) v = false
between (l ∷ ls) [] v = false
between (l ∷ ls) (h ∷ hs) [] = false
between (l ∷ ls) (h ∷ hs) (x ∷ xs) = le_z l x && (le_z x h && between ls hs xs)

unfoldable pub in_part : Part → List ℤ → Bool
in_part whole v = true
in_part (box lowest highest) v = between lowest highest v

-- How many whole numbers there are from l to h, both included; in each dimension.
unfoldable pub index_count : (l h : ℤ) → ℕ
index_count l h = cond (le_z l h) (suc (above h l)) 0

unfoldable pub widths : (lowest highest : List ℤ) → List ℕ
widths [] hs = []
widths (l ∷ ls) [] = []
widths (l ∷ ls) (h ∷ hs) = index_count l h ∷ widths ls hs

-- A rectangle of two dimensions as rows.
unfoldable pub equal_rows : List ℕ → List Row
equal_rows [] = []
equal_rows (n ∷ []) = []
equal_rows (n ∷ w ∷ ws) = tabulate n (λ _. record { start = 0; length = w })

-- A box of these widths: a rectangle, which on rows is taken row by row.
unfoldable pub box_shape : Ground → List ℕ → Ground
box_shape (rectangle sizes) ws = rectangle ws
box_shape (skewed rs) ws = skewed (equal_rows ws)

-- The vectors of a box.
unfoldable pub box_course : Ground → (lowest highest : List ℤ) → Course
box_course g lowest highest = record { first = lowest; shape = box_shape g (widths lowest highest) }

-- The iterations that a run covers.
unfoldable pub course : Ground → List (List ℤ) → Part → Course
course g offsets whole = all_iterations g offsets
course g offsets (box lowest highest) = box_course g lowest highest

-- 15: "a lowest above its highest,
unfoldable pub crossed : (lowest highest : List ℤ) → Bool
crossed [] hs = false
crossed (l ∷ ls) [] = false
crossed (l ∷ ls) (h ∷ hs) = lt_z h l || crossed ls hs

-- or an iteration of the box that reads outside the grid": a vector of it that is no iteration.
unfoldable pub reads_outside : Ground → List (List ℤ) → Course → Bool
reads_outside g offsets c = some_below (count c) (λ j. not (is_iteration g offsets (vector c j)))

unfoldable pub bad_box : Ground → List (List ℤ) → Part → Bool
bad_box g offsets whole = false
bad_box g offsets (box lowest highest) = crossed lowest highest || reads_outside g offsets (box_course g lowest highest)

-- The full box of a rectangle: from the first iteration to the last.
unfoldable pub full_box : List ℕ → List (List ℤ) → Part
full_box sizes offsets =
    let first = map neg_ℤ (lows sizes offsets) in
    box first (counted_from first (map (λ e. e - 1) (extents sizes offsets)))
