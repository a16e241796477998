-- The course of a run lists exactly the iterations that the run covers, each once, in order; and what is read there.
use Prim.Native.Nat.{ℕ, zero, suc, ◌≤◌, ◌<◌}
use mathlib.Core.Bool.{Bool, true, false, and-eq-true_iff}
use mathlib.Core.List.{List, []}
use mathlib.Core.Path.{◌≡◌, refl, sym, ◌∙◌, ap₂}
use native.Mathlib.Omega.{arith}
use lib.Dec.{eqb, ltb}
use lib.ListN.{length, get_or}
use lib.IntN.{ℤ}
use borrow.Author.Tests.{ltb-true, lt-ltb}
use Rattle.model.specs.Lists.{all}
use Rattle.model.specs.Vectors.{plus, before}
use Rattle.model.specs.Grounds.{Ground, dims, cell_count, inside, position, is_iteration}
use Rattle.model.specs.Courses.{Course, count, vector, all_iterations}
use Rattle.model.specs.Boxes.{Part, in_part, course, bad_box}
use Rattle.model.specs.Boxes.Part.{whole, box}
use Rattle.model.specs.Sized.{Bounded, Suits}
use Rattle.grid_laws.proofs.ListLaws.{all_each}
use Rattle.grid_laws.proofs.GroundLaws.{inside_order, inside_below}
use Rattle.grid_laws.proofs.ShiftLaws.{before_plus, plus_comm}
use Rattle.grid_laws.proofs.CourseLaws.{vector_entries, course_order, course_once, shifted_order}
use Rattle.grid_laws.proofs.BoxLaws.{box_dims, vector_between, between_listed, some_vector, box_passes}
use Rattle.grid_laws.proofs.WholeLaws.{whole_iterations, whole_complete, whole_dims}

-- There is an iteration to cover where there is one at all: a box that 15 does not turn back has a vector.
pub course_some : (g : Ground) (offsets : List (List ℤ)) (p : Part) → Bounded (dims g) p → bad_box g offsets p ≡ false → 0 < count (all_iterations g offsets) → 0 < count (course g offsets p)
unfolding course
course_some g offsets whole b fits s = s
course_some g offsets (box l h) b fits s = some_vector g l h b (box_passes g l h b offsets fits).0

-- The first vector has an entry for each dimension of the shape, which are those of the ground.
pub course_dims : (g : Ground) (offsets : List (List ℤ)) (p : Part) → Bounded (dims g) p
    → (length (course g offsets p).first ≡ dims (course g offsets p).shape) × (dims (course g offsets p).shape ≡ dims g)
unfolding course
course_dims g offsets whole b = whole_dims g offsets
course_dims g offsets (box l h) b = box_dims g l h b

-- Numbers that rise are at least as great as how many come before them.
rising_least : (n : ℕ) (f : ℕ → ℕ) → ((i j : ℕ) → i < j → j < n → f i < f j) → (j : ℕ) → j < n → j ≤ f j
rising_least n f up zero b = omega arith
rising_least n f up (suc j) b = omega (arith, rising_least n f up j (omega arith), up j (suc j) (omega arith) b)

module _ (g : Ground) (offsets : List (List ℤ)) where
  -- Each vector of the course is an iteration and lies in the part that is run, and each iteration that does is one of them.
  pub iterates : (p : Part) → Suits g offsets p → (j : ℕ) → j < count (course g offsets p) → is_iteration g offsets (vector (course g offsets p) j) ≡ true
  unfolding course
  iterates whole s j h = whole_iterations g offsets s.entries j h
  iterates (box l h) s j i = (box_passes g l h s.bounded offsets s.fits).1 j i

  pub lies : (p : Part) → Suits g offsets p → (j : ℕ) → j < count (course g offsets p) → in_part p (vector (course g offsets p) j) ≡ true
  unfolding course in_part
  lies whole s j h = refl
  lies (box l h) s j i = vector_between g l h s.bounded (box_passes g l h s.bounded offsets s.fits).0 j i

  pub complete : (p : Part) → Suits g offsets p → (v : List ℤ) → is_iteration g offsets v ≡ true → in_part p v ≡ true
      → (j : ℕ) × (j < count (course g offsets p)) × (v ≡ vector (course g offsets p) j)
  unfolding course in_part
  complete whole s v e i = whole_complete g offsets s.entries s.some v e
  complete (box l h) s v e i = between_listed g l h s.bounded v i

  module _ (p : Part) (s : Suits g offsets p) where
    abbrev pub c : Course
    c = course g offsets p

    -- They go in rising lexicographic order, and none comes twice.
    pub in_order_lem : (i j : ℕ) → i < j → j < count c → before (vector c i) (vector c j) ≡ true
    in_order_lem i j l b = course_order c (course_dims g offsets p s.bounded).0 i j (omega arith) b ∙ lt-ltb i j l

    pub once : (i j : ℕ) → i < count c → j < count c → vector c i ≡ vector c j → i ≡ j
    once = course_once c (course_dims g offsets p s.bounded).0

    -- The position that reference k reads in iteration j of the run: that of a cell.
    abbrev pub reads_in : (j k : ℕ) → ℕ
    reads_in j k = position g (plus (vector c j) (get_or offsets k []))

    pub reads_inside : (j k : ℕ) → j < count c → k < length offsets → inside g (plus (vector c j) (get_or offsets k [])) ≡ true
    unfolding is_iteration
    reads_inside j k h b =
        let v = vector c j in
        let stays : List ℤ → Bool = λ o. inside g (plus v o) in
        all_each stays offsets [] ((and-eq-true_iff (eqb (length v) (dims g)) (all stays offsets)).0 (iterates p s j h)).1 k b

    pub below_cells : (j k : ℕ) → j < count c → k < length offsets → reads_in j k < cell_count g
    below_cells j k h b = inside_below g (plus (vector c j) (get_or offsets k [])) (reads_inside j k h b)

    -- Each reference reads later positions in later iterations.
    pub rises : (i j k : ℕ) → i < j → j < count c → k < length offsets → reads_in i k < reads_in j k
    rises i j k l h b =
        let d = course_dims g offsets p s.bounded in
        let a : i < count c = omega arith in
        let o = get_or offsets k [] in
        ltb-true (position g (plus (vector c i) o)) (position g (plus (vector c j) o))
        (sym (inside_order g (plus (vector c i) o) (plus (vector c j) o) (reads_inside i k a b) (reads_inside j k h b))
        ∙ shifted_order c d.0 o (s.entries k b ∙ sym d.1) i j a h ∙ lt-ltb i j l)

    -- So there are at most as many iterations as cells.
    pub at_most_cells : count c ≤ cell_count g
    at_most_cells = go (count c) refl
      where
        go : (n : ℕ) → count c ≡ n → n ≤ cell_count g
        go zero e = omega arith
        go (suc n) e =
            let h : n < count c = omega arith in
            omega (arith, rising_least (count c) (λ j. reads_in j 0) (λ i j l b. rises i j 0 l b s.some) n h, below_cells n 0 h s.some)

    -- In each iteration offsets come lexicographically before one another exactly if the positions read do.
    pub falls : (j k l : ℕ) → j < count c → k < length offsets → l < length offsets → before (get_or offsets l []) (get_or offsets k []) ≡ ltb (reads_in j l) (reads_in j k)
    falls j k l h a b =
        let d = course_dims g offsets p s.bounded in
        let v = vector c j in
        let n = vector_entries c d.0 j h ∙ d.1 in
        sym (before_plus (get_or offsets l []) (get_or offsets k []) v (s.entries l b ∙ sym n) (s.entries k a ∙ sym n))
        ∙ ap₂ before (plus_comm (get_or offsets l []) v) (plus_comm (get_or offsets k []) v)
        ∙ inside_order g (plus v (get_or offsets l [])) (plus v (get_or offsets k [])) (reads_inside j l h b) (reads_inside j k h a)
