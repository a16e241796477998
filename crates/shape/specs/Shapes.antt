-- What this crate's public functions answer, on any value: the model's definitions where 3 and 4 let the value pass, and a
-- fixed answer elsewhere.
use Rattle.std.specs.Prelude.{ℕ, zero, suc, Bool, false, not, cond, ◌&&◌, List, [], ◌∷◌, ◌≡◌, ℤ, get_or, Result, Ok, Err}
use Rattle.model.specs.Lists.{tabulate}
use Rattle.model.specs.Vectors.{plus}
use Rattle.model.specs.Geometry.{cell_count}
use Rattle.model.specs.Grounds.{ground_sizes, position}
use Rattle.model.specs.Grounds.Ground.{rectangle}
use Rattle.model.specs.Courses.{Course, count, vector, all_iterations}
use Rattle.model.specs.Answers.{by_verdict}
use Rattle.model.specs.Values.{sizes_of, offsets_of, on_rectangle}
use Rattle.model.specs.Iterations.{course_of}
use Rattle.model.specs.Judging.{bad_grid, bad_count, repeats, no_iteration, judge_rectangle}
use Rattle.model.specs.Windows.{centre_of}
use Rattle.model.specs.declared.Bounds.{Bounds}
use Rattle.model.specs.declared.Chain.{Chain}
use Rattle.model.specs.declared.Grid.{Grid}
use Rattle.model.specs.declared.Refusal.{Refusal}
use Rattle.model.specs.declared.Window.{Window}
use Rattle.shape.specs.declared.Shape.{Shape}
use Rattle.shape.specs.declared.Survey.{Survey}

-- Neither 3 nor 4.
unfoldable pub sound : Grid → Window → Bool
sound g w = not (bad_grid g.dims (sizes_of g)) && not (bad_count w.count)

-- How many cells lie between two neighbours in dimension d: "strides are those of the whole grid".
unfoldable pub stride : List ℕ → (d : ℕ) → ℕ
stride [] d = 0
stride (s ∷ ss) zero = cell_count ss
stride (s ∷ ss) (suc d) = stride ss d

-- A window on a grid, where a run takes this course, as numbers. Past the last dimension and the last reference they are 0.
unfoldable pub shape_for : List ℕ → List (List ℤ) → Course → Shape
shape_for sizes offsets c = record {
  cells = cell_count sizes;
  iterations = count c;
  extents = tabulate 4 (λ d. get_or (ground_sizes c.shape) d 0);
  strides = tabulate 4 (λ d. stride sizes d);
  at = tabulate 32 (λ k. position (rectangle sizes) (plus (vector c 0) (get_or offsets k [])));
}

-- Where it covers all iterations.
abbrev pub whole_shape : List ℕ → List (List ℤ) → Shape
whole_shape sizes offsets = shape_for sizes offsets (all_iterations (rectangle sizes) offsets)

unfoldable pub blank_shape : Shape
blank_shape = record
    { cells = 0; iterations = 0; extents = tabulate 4 (λ d. 0); strides = tabulate 4 (λ d. 0); at = tabulate 32 (λ k. 0) }

-- Blank where 3, 4 or 6 turns the two back.
unfoldable pub shape_of : Grid → Window → Shape
shape_of g w =
    let sizes = sizes_of g in
    let offsets = offsets_of g.dims w in
    let whole = whole_shape sizes offsets in
    cond (sound g w && not (no_iteration (rectangle sizes) offsets)) whole blank_shape

-- What judging and running ask of a window on a grid, found together: the first of 3 to 6 and 15 that turns them back, else
-- the centre and the shape of the course that a run takes.
unfoldable pub survey_of : Grid → Window → Bounds → Result Survey Refusal
survey_of g w b =
    let offsets = offsets_of g.dims w in
    let found : Survey = record {
      centre = centre_of offsets;
      shape = shape_for (sizes_of g) offsets (course_of (on_rectangle g w b));
    } in
    by_verdict (judge_rectangle g w b) (Ok found) Err

-- The shape of an accepted chain.
unfoldable pub chain_shape : Chain → Shape
chain_shape c = shape_for (sizes_of c.grid) (offsets_of c.grid.dims c.window)
    (course_of (on_rectangle c.grid c.window c.bounds))

-- The centre and the shape of all iterations, of a grid and a window that 3 to 6 let pass.
pub record Whole (g : Grid) (w : Window) (centre : ℕ) (s : Shape) : Type 0 where
  pub grid : bad_grid g.dims (sizes_of g) ≡ false
  pub count : bad_count w.count ≡ false
  pub distinct : repeats (offsets_of g.dims w) ≡ false
  pub iterates : no_iteration (rectangle (sizes_of g)) (offsets_of g.dims w) ≡ false
  pub centre_is : centre ≡ centre_of (offsets_of g.dims w)
  pub shape_is : s ≡ whole_shape (sizes_of g) (offsets_of g.dims w)
