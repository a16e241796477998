-- Laws of grounds, for rectangles and rows together.
use Prim.Native.Nat.{ℕ, suc, ◌<◌}
use mathlib.Core.Bool.{true, ◌&&◌, false≢true, and-eq-true_iff}
use mathlib.Core.List.{List, [], ◌∷◌, map}
use mathlib.Core.Path.{◌≡◌, refl, sym, ◌∙◌, ap, ap₂}
use native.Mathlib.Omega.{arith}
use lib.Dec.{ltb, leb}
use lib.ListN.{length}
use lib.IntN.{ℤ, pos, negsuc}
use borrow.Author.Tests.{ltb-true, le-leb}
use Rattle.model.specs.Vectors.{above, before}
use Rattle.model.specs.Windows.{relative}
use Rattle.model.specs.Geometry.{natural, place}
use Rattle.model.specs.Geometry as rectangular
use Rattle.grid_laws.proofs.PlaceLaws.{Below, AtLeast, before_place, place_below, place_injective, indices_below, place_indices}
use Rattle.grid_laws.proofs.PlaceLaws.AtLeast.{none, next}
use Rattle.grid_laws.proofs.IterationLaws.{below_inside, natural_of_pos}
use Rattle.model.specs.Grounds.{Row, Ground, cell_count, dims, inside, cell_place, row_place, position, cell_at}
use Rattle.model.specs.Grounds.Ground.{rectangle, skewed}
use Rattle.grid_laws.proofs.RowLaws.{RowCell, inside_row_cell, row_cell_inside, row_place_below, row_order, row_cell_at, row_place_injective}

-- The indices of a cell.
abbrev pub Cell : Ground → List ℕ → Type 0
Cell (rectangle sizes) u = Below sizes u
Cell (skewed rs) u = RowCell rs u

-- On a rectangle.
rectangle_indices : (ss : List ℕ) (v : List ℤ) → rectangular.inside ss v ≡ true → (u : List ℕ) × (v ≡ map pos u) × Below ss u
unfolding rectangular.inside
rectangle_indices [] [] e = ([], refl, tt)
rectangle_indices [] (x ∷ xs) e = absurd (false≢true e)
rectangle_indices (s ∷ ss) [] e = absurd (false≢true e)
rectangle_indices (s ∷ ss) (negsuc a ∷ xs) e = absurd (false≢true e)
rectangle_indices (s ∷ ss) (pos x ∷ xs) e =
    let a = (and-eq-true_iff (leb 0 x) (ltb x s && rectangular.inside ss xs)).0 e in
    let b = (and-eq-true_iff (ltb x s) (rectangular.inside ss xs)).0 a.1 in
    let (u, f, h) = rectangle_indices ss xs b.1 in
    (x ∷ u, ap (◌∷◌ (pos x)) f, (ltb-true x s b.0, h))

abbrev zeros : List ℕ → List ℤ
zeros [] = []
zeros (s ∷ ss) = pos 0 ∷ zeros ss

at_least_zeros : (ss u : List ℕ) → Below ss u → AtLeast (zeros ss) (map pos u)
at_least_zeros [] [] h = none
at_least_zeros [] (x ∷ u) h = absurd h
at_least_zeros (s ∷ ss) [] h = absurd h
at_least_zeros (s ∷ ss) (x ∷ u) h = next (le-leb 0 x (omega arith)) (at_least_zeros ss u h.1)

from_zeros : (ss u : List ℕ) → Below ss u → relative (map pos u) (zeros ss) ≡ u
unfolding relative above
from_zeros [] [] h = refl
from_zeros [] (x ∷ u) h = absurd h
from_zeros (s ∷ ss) [] h = absurd h
from_zeros (s ∷ ss) (x ∷ u) h = ap₂ ◌∷◌ (omega arith) (from_zeros ss u h.1)

below_order : (ss u w : List ℕ) → Below ss u → Below ss w → before (map pos u) (map pos w) ≡ ltb (place ss u) (place ss w)
below_order ss u w h g =
    before_place ss (at_least_zeros ss u h) (at_least_zeros ss w g) (rw (from_zeros ss u h) h) (rw (from_zeros ss w g) g)
    ∙ ap₂ (λ (u w : List ℕ). ltb (place ss u) (place ss w)) (from_zeros ss u h) (from_zeros ss w g)

-- A vector inside has the indices of a cell, and the other way.
pub inside_cell : (g : Ground) (v : List ℤ) → inside g v ≡ true → (u : List ℕ) × (v ≡ map pos u) × Cell g u
unfolding inside
inside_cell (rectangle ss) v e = rectangle_indices ss v e
inside_cell (skewed rs) v e = inside_row_cell rs v e

pub cell_inside : (g : Ground) (u : List ℕ) → Cell g u → inside g (map pos u) ≡ true
unfolding inside
cell_inside (rectangle ss) u h = below_inside ss u h
cell_inside (skewed rs) u h = row_cell_inside rs u h

-- The place of a cell is below the cell count, lexicographic order is the order of places, and a place has one cell.
pub cell_below : (g : Ground) (u : List ℕ) → Cell g u → cell_place g u < cell_count g
unfolding cell_place cell_count
cell_below (rectangle ss) u h = place_below ss u h
cell_below (skewed rs) u h = row_place_below rs u h

pub cell_order : (g : Ground) (u w : List ℕ) → Cell g u → Cell g w → before (map pos u) (map pos w) ≡ ltb (cell_place g u) (cell_place g w)
unfolding cell_place
cell_order (rectangle ss) u w h k = below_order ss u w h k
cell_order (skewed rs) u w h k = row_order rs u w h k

pub cell_injective : (g : Ground) (u w : List ℕ) → Cell g u → Cell g w → cell_place g u ≡ cell_place g w → u ≡ w
unfolding cell_place
cell_injective (rectangle ss) u w h k e = place_injective ss u w h k e
cell_injective (skewed rs) u w h k e = row_place_injective rs u w h k e

-- The cell at position j is one, and has that place.
pub at_cell : (g : Ground) (j : ℕ) → j < cell_count g → Cell g (cell_at g j)
unfolding cell_at cell_count rectangular.cell_count
at_cell (rectangle ss) j h = indices_below ss j h
at_cell (skewed rs) j h = (row_cell_at rs j h).holds

pub at_place : (g : Ground) (j : ℕ) → j < cell_count g → cell_place g (cell_at g j) ≡ j
unfolding cell_at cell_count cell_place row_place rectangular.cell_count
at_place (rectangle ss) j h = place_indices ss j h
at_place (skewed rs) j h = (row_cell_at rs j h).place

-- So each cell is the one at its place.
pub cell_at_place : (g : Ground) (u : List ℕ) → Cell g u → cell_at g (cell_place g u) ≡ u
cell_at_place g u h =
    let b = cell_below g u h in
    cell_injective g (cell_at g (cell_place g u)) u (at_cell g (cell_place g u) b) h (at_place g (cell_place g u) b)

-- A cell's indices have an entry for each dimension.
below_length : (ss u : List ℕ) → Below ss u → length u ≡ length ss
below_length [] [] h = refl
below_length [] (x ∷ u) h = absurd h
below_length (s ∷ ss) [] h = absurd h
below_length (s ∷ ss) (x ∷ u) h = ap suc (below_length ss u h.1)

row_cell_length : (rs : List Row) (u : List ℕ) → RowCell rs u → length u ≡ 2
row_cell_length rs [] h = absurd h
row_cell_length rs (i ∷ []) h = absurd h
row_cell_length rs (i ∷ c ∷ []) h = refl
row_cell_length rs (i ∷ c ∷ d ∷ u) h = absurd h

pub cell_length : (g : Ground) (u : List ℕ) → Cell g u → length u ≡ dims g
cell_length (rectangle ss) u h = below_length ss u h
cell_length (skewed rs) u h = row_cell_length rs u h

pub position_place : (g : Ground) (v : List ℤ) (u : List ℕ) → v ≡ map pos u → position g v ≡ cell_place g u
unfolding position
position_place g v u e = ap (λ (v : List ℤ). cell_place g (map natural v)) e ∙ ap (cell_place g) (natural_of_pos u)

-- On cells lexicographic order is the order of positions, positions are below the cell count, and each of these is the position of exactly one cell.
module _ (g : Ground) where
  pub inside_order : (v w : List ℤ) → inside g v ≡ true → inside g w ≡ true → before v w ≡ ltb (position g v) (position g w)
  inside_order v w e f =
      let (u, a, h) = inside_cell g v e in
      let (x, b, k) = inside_cell g w f in
      ap₂ before a b ∙ cell_order g u x h k ∙ sym (ap₂ ltb (position_place g v u a) (position_place g w x b))

  pub inside_below : (v : List ℤ) → inside g v ≡ true → position g v < cell_count g
  inside_below v e =
      let (u, a, h) = inside_cell g v e in
      omega (arith, position_place g v u a, cell_below g u h)

  pub position_cell : (p : ℕ) → p < cell_count g → (v : List ℤ) × (inside g v ≡ true) × (position g v ≡ p)
  position_cell p h =
      let c = at_cell g p h in
      (map pos (cell_at g p), cell_inside g (cell_at g p) c, position_place g (map pos (cell_at g p)) (cell_at g p) refl ∙ at_place g p h)

  pub inside_once : (v w : List ℤ) → inside g v ≡ true → inside g w ≡ true → position g v ≡ position g w → v ≡ w
  inside_once v w e f same =
      let (u, a, h) = inside_cell g v e in
      let (x, b, k) = inside_cell g w f in
      a ∙ ap (map pos) (cell_injective g u x h k (sym (position_place g v u a) ∙ same ∙ position_place g w x b)) ∙ sym b
