-- Iterations, distances and cells, and numbers 6 and 15 (document 01, "Grid, window, distances"; document 02, requests 4 and 5).
use Rattle.std.specs.Prelude.{ℕ, suc, ◌+◌, ◌-◌, ◌≤◌, ◌<◌, true, false, List, ◌↔◌, ◌≡◌, ℤ, Ok}
use Rattle.model.specs.Vectors.{before}
use Rattle.model.specs.Grounds.Ground.{rectangle}
use Rattle.model.specs.Boxes.{between, crossed, bad_box, full_box}
use Rattle.model.specs.Boxes.Part.{whole, box}
use Rattle.model.specs.Values.{Trimmed, dims_of, offsets_of, part_of, trimmed, set_bounds}
use Rattle.model.specs.Iterations.{cells_of, is_cell_of, position_of, is_iteration_of, covers_of, iterations_of, iteration_of, reads_of}
use Rattle.model.specs.Iterations.{distance_in, distance_of, newest_of}
use Rattle.model.specs.Answers.{verdict_number}
use Rattle.model.specs.Judging.{bad_ground, bad_count, repeats, no_iteration, judged, judge_chain}
use Rattle.model.specs.Planning.{trimmed_request}
use Rattle.model_run.specs.Running.{run_of}
use Rattle.model.specs.declared.Bounds.{Bounds}
use Rattle.model.specs.declared.Chain.{Chain}
use Rattle.model.specs.declared.Request.{Request}
use Rattle.model.specs.declared.State.{State}

module _ (t : Trimmed) where
  -- 4 and 15 let the value pass.
  pub record Passes : Type 0 where
    pub references : bad_count t.count ≡ false
    pub part : bad_box t.the_ground t.offsets t.part ≡ false

  -- Iterations 0, 1, 2, .. of a run are exactly the vectors that "added to each offset stay inside the grid" and, where there
  -- is a box, lie in it, each once, "in lexicographic order".
  pub record Enumerated : Type 0 where
    pub each : (j : ℕ) → j < iterations_of t → covers_of t (iteration_of t j) ≡ true
    pub no_other : (v : List ℤ) → covers_of t v ≡ true → (j : ℕ) × (j < iterations_of t) × (v ≡ iteration_of t j)
    pub once : (i j : ℕ) → i < iterations_of t → j < iterations_of t → iteration_of t i ≡ iteration_of t j → i ≡ j
    pub in_order : (i j : ℕ) → i < j → j < iterations_of t → before (iteration_of t i) (iteration_of t j) ≡ true

  -- The reuse distance is the largest over the iterations of a run: none has a greater one, and one has it.
  pub record Largest : Type 0 where
    pub most : (j k : ℕ) → j < iterations_of t → suc k < t.count → distance_in t j k ≤ distance_of t k
    pub reached : (k : ℕ) → suc k < t.count → (j : ℕ) × (j < iterations_of t) × (distance_in t j k ≡ distance_of t k)

  -- "An iteration's newest cell is the one of highest position that its references read": no read is newer, and one is it.
  pub record Newest : Type 0 where
    pub none_newer : (j k : ℕ) → k < t.count → reads_of t j k ≤ newest_of t j
    pub read : (j : ℕ) → (k : ℕ) × (k < t.count) × (reads_of t j k ≡ newest_of t j)

  -- On a rectangle "This is the same in all iterations": of any two references, whichever reads further on, and of neighbours
  -- by the name of their distance.
  pub record SameDistance : Type 0 where
    pub pair : (i j k l : ℕ) → i < iterations_of t → j < iterations_of t → k < t.count → l < t.count
        → reads_of t i k + reads_of t j l ≡ reads_of t j k + reads_of t i l
    pub neighbours : (j k : ℕ) → j < iterations_of t → suc k < t.count → reads_of t j k - reads_of t j (suc k) ≡ distance_of t k

  -- "streamed in lexicographic order": on cells that is the order of positions, and each position below the cell count is
  -- that of one cell.
  pub record Placed : Type 0 where
    pub in_order : (v w : List ℤ) → is_cell_of t v ≡ true → is_cell_of t w ≡ true
        → before v w ≡ true ↔ position_of t v < position_of t w
    pub below : (v : List ℤ) → is_cell_of t v ≡ true → position_of t v < cells_of t
    pub each : (p : ℕ) → p < cells_of t → (v : List ℤ) × (is_cell_of t v ≡ true) × (position_of t v ≡ p)
    pub once : (v w : List ℤ) → is_cell_of t v ≡ true → is_cell_of t w ≡ true → position_of t v ≡ position_of t w → v ≡ w

  -- There is no iteration.
  abbrev pub Empty : Type 0
  Empty = (v : List ℤ) → is_iteration_of t v ≡ false

  -- "6: no iteration": where there is a reference its condition holds exactly if there is none, and where 3, 16, 4 and 5 do
  -- not hold the answer is 6 exactly then.
  pub record Number6 : Type 0 where
    pub condition : bad_count t.count ≡ false → no_iteration t.the_ground t.offsets ≡ true ↔ Empty
    pub answer : bad_ground t.dims t.the_ground ≡ false → bad_count t.count ≡ false → repeats t.offsets ≡ false
        → verdict_number (judged t) ≡ 6 ↔ Empty

  -- "15, a lowest above its highest, or an iteration of the box that reads outside the grid": never without a box; of a box,
  -- where there is a reference, its condition fails exactly if no lowest is above its highest and each vector of the box is
  -- an iteration, and for that on a rectangle the two corners decide; where 3 to 6 and 16 do not hold the answer is 15
  -- exactly if it holds.
  pub record Number15 : Type 0 where
    pub none : t.part ≡ whole → bad_box t.the_ground t.offsets t.part ≡ false
    pub condition : (lowest highest : List ℤ) → t.part ≡ box lowest highest → bad_count t.count ≡ false
        → bad_box t.the_ground t.offsets t.part ≡ false
        ↔ ((crossed lowest highest ≡ false) × ((v : List ℤ) → between lowest highest v ≡ true → is_iteration_of t v ≡ true))
    pub corners : (sizes : List ℕ) → t.the_ground ≡ rectangle sizes → (lowest highest : List ℤ) → t.part ≡ box lowest highest
        → bad_count t.count ≡ false
        → bad_box t.the_ground t.offsets t.part ≡ false
        ↔ ((crossed lowest highest ≡ false) × (is_iteration_of t lowest ≡ true) × (is_iteration_of t highest ≡ true))
    pub answer : bad_ground t.dims t.the_ground ≡ false → bad_count t.count ≡ false → repeats t.offsets ≡ false
        → no_iteration t.the_ground t.offsets ≡ false
        → verdict_number (judged t) ≡ 15 ↔ bad_box t.the_ground t.offsets t.part ≡ true

-- A chain without a box, and the same chain with a box that is the full one of a rectangle of these sizes.
pub record Filling (c : Chain) (sizes : List ℕ) (b : Bounds) : Type 0 where
  pub absent : c.bounds.stood ≡ false
  pub full : part_of (dims_of c.grid) b ≡ full_box sizes (offsets_of (dims_of c.grid) c.window)

-- On a rectangle a full box runs as none: an accepted chain is accepted with it too, and every call does the same in every
-- word and clock.
abbrev pub FullBoxRuns : Type 0
FullBoxRuns = (c : Chain) (rows sizes : List ℕ) → (trimmed c rows).the_ground ≡ rectangle sizes → (b : Bounds) → Filling c sizes b
    → judge_chain c rows ≡ Ok tt
    → (judge_chain (set_bounds b c) rows ≡ Ok tt)
    × ((s : State) (store lent output : List ℕ) (allowance : ℕ)
    → run_of (set_bounds b c) rows s store lent output allowance ≡ run_of c rows s store lent output allowance)

-- Iterations of every chain and every request that 4 and 15 let pass, and there the newest cells and, on a rectangle, one
-- distance; largest distances of every accepted chain; cells of every chain; numbers 6 and 15 of every chain and every request.
pub record Geometry : Type 0 where
  pub iterations : (c : Chain) (rows : List ℕ) → Passes (trimmed c rows) → Enumerated (trimmed c rows)
  pub request_iterations : (r : Request) (rows : List ℕ) → Passes (trimmed_request r rows) → Enumerated (trimmed_request r rows)
  pub newest : (c : Chain) (rows : List ℕ) → Passes (trimmed c rows) → Newest (trimmed c rows)
  pub largest : (c : Chain) (rows : List ℕ) → judge_chain c rows ≡ Ok tt → Largest (trimmed c rows)
  pub distances : (c : Chain) (rows sizes : List ℕ) → (trimmed c rows).the_ground ≡ rectangle sizes → Passes (trimmed c rows)
      → SameDistance (trimmed c rows)
  pub cells : (c : Chain) (rows : List ℕ) → Placed (trimmed c rows)
  pub chain_6 : (c : Chain) (rows : List ℕ) → Number6 (trimmed c rows)
  pub request_6 : (r : Request) (rows : List ℕ) → Number6 (trimmed_request r rows)
  pub chain_15 : (c : Chain) (rows : List ℕ) → Number15 (trimmed c rows)
  pub request_15 : (r : Request) (rows : List ℕ) → Number15 (trimmed_request r rows)
  pub full_box_lem : FullBoxRuns
