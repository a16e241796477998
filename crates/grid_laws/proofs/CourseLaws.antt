-- Laws of a course, whatever its shape and origin.
use Prim.Native.Nat.{ℕ, ◌<◌}
use mathlib.Core.List.{List, map}
use mathlib.Core.Path.{◌≡◌, sym, ◌∙◌, ap, ap₂}
use native.Mathlib.Omega.{arith}
use lib.Dec.{ltb}
use lib.ListN.{length, length-map}
use lib.IntN.{ℤ, pos}
use borrow.Author.Tests.{ltb-false, le-ltb}
use Rattle.model.specs.Vectors.{plus, before}
use Rattle.model.specs.Grounds.{dims, cell_place, cell_at}
use Rattle.model.specs.Courses.{Course, count, vector}
use Rattle.grid_laws.proofs.GroundLaws.{Cell, at_cell, at_place, cell_order, cell_below, cell_at_place, cell_length}
use Rattle.grid_laws.proofs.ShiftLaws.{before_plus, length_plus}

module _ (c : Course) where
  -- An iteration is a cell of the shape, counted from the origin, and each cell is listed.
  pub cell_listed : (u : List ℕ) → Cell c.shape u → (j : ℕ) × (j < count c) × (vector c j ≡ plus (map pos u) c.first)
  unfolding count vector
  cell_listed u h =
      (cell_place c.shape u, cell_below c.shape u h, ap (λ (u : List ℕ). plus (map pos u) c.first) (cell_at_place c.shape u h))

  module _ (entries : length c.first ≡ dims c.shape) where
    cell_entries : (j : ℕ) → j < count c → length (map pos (cell_at c.shape j)) ≡ length c.first
    unfolding count
    cell_entries j h = simp length-map (cell_length c.shape (cell_at c.shape j) (at_cell c.shape j h) ∙ sym entries)

    pub vector_entries : (j : ℕ) → j < count c → length (vector c j) ≡ dims c.shape
    unfolding vector
    vector_entries j h = length_plus (map pos (cell_at c.shape j)) c.first (cell_entries j h) ∙ entries

    -- Iterations go in lexicographic order,
    pub course_order : (i j : ℕ) → i < count c → j < count c → before (vector c i) (vector c j) ≡ ltb i j
    unfolding count vector
    course_order i j a b =
        before_plus (map pos (cell_at c.shape i)) (map pos (cell_at c.shape j)) c.first (cell_entries i a) (cell_entries j b)
        ∙ cell_order c.shape (cell_at c.shape i) (cell_at c.shape j) (at_cell c.shape i a) (at_cell c.shape j b)
        ∙ ap₂ ltb (at_place c.shape i a) (at_place c.shape j b)

    -- also with a vector added to all.
    pub shifted_order : (o : List ℤ) → length o ≡ dims c.shape → (i j : ℕ) → i < count c → j < count c → before (plus (vector c i) o) (plus (vector c j) o) ≡ ltb i j
    shifted_order o n i j a b = before_plus (vector c i) (vector c j) o (vector_entries i a ∙ sym n) (vector_entries j b ∙ sym n) ∙ course_order i j a b

    -- None comes twice.
    pub course_once : (i j : ℕ) → i < count c → j < count c → vector c i ≡ vector c j → i ≡ j
    course_once i j a b e =
        let x = ltb-false i j (sym (course_order i j a b) ∙ ap (before (vector c i)) (sym e) ∙ course_order i i a a ∙ le-ltb i i (omega arith)) in
        let y = ltb-false j i (sym (course_order j i b a) ∙ ap (before (vector c j)) e ∙ course_order j j b b ∙ le-ltb j j (omega arith)) in
        omega arith
