-- The course of all iterations lists exactly the iterations.
use Prim.Native.Nat.{ℕ, ◌<◌}
use mathlib.Core.Bool.{true}
use mathlib.Core.List.{List}
use mathlib.Core.Path.{◌≡◌, refl, sym, ◌∙◌}
use lib.ListN.{length, length-map}
use lib.IntN.{ℤ}
use Rattle.model.specs.Lists.{tabulate}
use Rattle.model.specs.Geometry as rectangular
use Rattle.model.specs.Grounds.{Ground, dims, cell_count, inside, cell_at, is_iteration}
use Rattle.model.specs.Grounds.Ground.{rectangle, skewed}
use Rattle.model.specs.Courses.{count, vector, common_row, all_iterations}
use Rattle.model.specs.Sized.{Sized}
use Rattle.grid_laws.proofs.Rectangles as rectangle
use Rattle.grid_laws.proofs.WindowLaws.{length_lows, length_extents}
use Rattle.grid_laws.proofs.Distances.{listed, complete}
use Rattle.grid_laws.proofs.GroundLaws.{at_cell}
use Rattle.grid_laws.proofs.CourseLaws.{cell_listed}
use Rattle.grid_laws.proofs.RowIterations.{cell_iteration, iteration_cell}

-- On a rectangle they are those of its sizes.
pub rectangle_iteration : (sizes : List ℕ) (offsets : List (List ℤ)) (v : List ℤ) → is_iteration (rectangle sizes) offsets v ≡ rectangle.is_iteration sizes offsets v
unfolding is_iteration inside rectangle.is_iteration
rectangle_iteration sizes offsets v = refl

pub rectangle_vector : (sizes : List ℕ) (offsets : List (List ℤ)) (j : ℕ) → vector (all_iterations (rectangle sizes) offsets) j ≡ rectangle.iteration sizes offsets j
unfolding vector all_iterations cell_at rectangle.iteration
rectangle_vector sizes offsets j = refl

pub rectangle_count : (sizes : List ℕ) (offsets : List (List ℤ)) → count (all_iterations (rectangle sizes) offsets) ≡ rectangle.iteration_count sizes offsets
unfolding count all_iterations cell_count rectangular.cell_count rectangle.iteration_count
rectangle_count sizes offsets = refl

pub whole_iterations : (g : Ground) (offsets : List (List ℤ)) → Sized (dims g) offsets
    → (j : ℕ) → j < count (all_iterations g offsets) → is_iteration g offsets (vector (all_iterations g offsets) j) ≡ true
unfolding all_iterations count vector
whole_iterations (rectangle sizes) offsets sized j h =
    rw (rectangle_iteration sizes offsets _, rectangle_vector sizes offsets j) (listed sizes offsets sized j (rw (rectangle_count sizes offsets) at h))
whole_iterations (skewed rs) offsets sized j h =
    let shape = skewed (tabulate (length rs) (common_row rs offsets)) in
    cell_iteration rs offsets sized (cell_at shape j) (at_cell shape j h)

pub whole_complete : (g : Ground) (offsets : List (List ℤ)) → Sized (dims g) offsets → 0 < length offsets
    → (v : List ℤ) → is_iteration g offsets v ≡ true → (j : ℕ) × (j < count (all_iterations g offsets)) × (v ≡ vector (all_iterations g offsets) j)
unfolding all_iterations
whole_complete (rectangle sizes) offsets sized some v e =
    let (j, b, f) = complete sizes offsets sized v some (sym (rectangle_iteration sizes offsets v) ∙ e) in
    (j, rw (sym (rectangle_count sizes offsets)) at b, f ∙ sym (rectangle_vector sizes offsets j))
whole_complete (skewed rs) offsets sized some v e =
    let (u, h, f) = iteration_cell rs offsets sized some v e in
    let (j, b, d) = cell_listed (all_iterations (skewed rs) offsets) u h in
    (j, b, sym f ∙ sym d)

-- The first vector has an entry for each dimension of the shape, which are those of the ground.
pub whole_dims : (g : Ground) (offsets : List (List ℤ))
    → (length (all_iterations g offsets).first ≡ dims (all_iterations g offsets).shape) × (dims (all_iterations g offsets).shape ≡ dims g)
unfolding all_iterations
whole_dims (rectangle sizes) offsets = (simp length-map (length_lows sizes offsets ∙ sym (length_extents sizes offsets)), length_extents sizes offsets)
whole_dims (skewed rs) offsets = (refl, refl)
