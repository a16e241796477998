-- The three steps of planning (document 003, section 3.3), each by itself, of every grid, window and box that 3 to 6 and 15
-- let pass: so also of a request that 7, 8 or 9 turns back.
use Rattle.std.specs.Prelude.{ℕ, suc, ◌+◌, ◌-◌, ◌≤◌, ◌<◌, true, List, [], ◌≡◌, ℤ, get_or, Result, Ok, Err}
use Rattle.model.specs.Lists.{tabulate, sum}
use Rattle.model.specs.Vectors.{plus, before}
use Rattle.model.specs.Windows.{Members}
use Rattle.model.specs.Grounds.Ground.{rectangle}
use Rattle.model.specs.Values.{dims_of, offsets_of, on_grid}
use Rattle.model.specs.Iterations.{position_of, is_iteration_of, covers_of}
use Rattle.model.specs.Answers.{by_answer, verdict_of}
use Rattle.model.specs.Judging.{centred, judge_window, judge_behind}
use Rattle.model.specs.Steps.{steps_of}
use Rattle.model.specs.Planning.{plan_of, chain_by}
use Rattle.model.specs.declared.Bounds.{Bounds}
use Rattle.model.specs.declared.Grid.{Grid}
use Rattle.model.specs.declared.Chain.{Chain}
use Rattle.model.specs.declared.Refusal.{Refusal}
use Rattle.model.specs.declared.Request.{Request}
use Rattle.model.specs.declared.Steps.{Steps}
use Rattle.model.specs.declared.Window.{Window}

-- What the three steps give.
module _ (g : Grid) (rows : List ℕ) (w : Window) (b : Bounds) (steps : Steps) where
  -- The author's reference i, and the sorted reference k.
  abbrev pub given : ℕ → List ℤ
  given i = get_or (offsets_of (dims_of g) w) i []

  abbrev pub arranged : ℕ → List ℤ
  arranged k = get_or (offsets_of (dims_of g) steps.window) k []

  -- The position that the sorted reference k reads in the iteration v.
  abbrev pub read_by : (v : List ℤ) (k : ℕ) → ℕ
  read_by v k = position_of (on_grid g rows w b) (plus v (arranged k))

  abbrev pub distance : ℕ → ℕ
  distance k = get_or steps.distances k 0

  -- Section 3.3.2: "sort the data access offsets .. in the descending lexicographic order when we map them to data filters"
  pub record Sorted : Type 0 where
    -- The offsets are the request's, as many, each once,
    pub count : steps.window.count ≡ w.count
    pub each : Members (offsets_of (dims_of g) w) (offsets_of (dims_of g) steps.window)
    pub no_other : Members (offsets_of (dims_of g) steps.window) (offsets_of (dims_of g) w)
    -- in strictly falling order;
    pub falls : (k : ℕ) → suc k < w.count → before (arranged (suc k)) (arranged k) ≡ true
    -- the author's reference i is held by the filter that is named.
    pub held : (i : ℕ) → i < w.count → (get_or steps.filters i 0 < w.count) × (arranged (get_or steps.filters i 0) ≡ given i)

  -- Section 3.3.2: "the maximum reuse distances of all the pairs of adjacent array references"
  pub record Distances : Type 0 where
    -- In no iteration that a run covers the pair's positions differ by more than the distance, in one they differ by it,
    pub most : (v : List ℤ) (k : ℕ) → covers_of (on_grid g rows w b) v ≡ true → suc k < w.count
        → read_by v k ≤ read_by v (suc k) + distance k
    pub reached : (k : ℕ) → suc k < w.count
        → (v : List ℤ) × (covers_of (on_grid g rows w b) v ≡ true) × (read_by v k ≡ read_by v (suc k) + distance k)
    -- and it is at least 1.
    pub some : (k : ℕ) → suc k < w.count → 0 < distance k

  -- Section 3.3.3: "the sum of the sizes of all the reuse FIFOs"
  abbrev pub Summed : Type 0
  Summed = steps.total ≡ sum (tabulate (w.count - 1) distance)

  -- On a rectangle they differ by the distance in every iteration, inside the box and outside it, and the sum "is equal to
  -- the maximum reuse distance between array reference A_0 and A_{n-1}".
  pub record OnRectangle : Type 0 where
    pub every : (v : List ℤ) (k : ℕ) → is_iteration_of (on_grid g rows w b) v ≡ true → suc k < w.count
        → read_by v k ≡ read_by v (suc k) + distance k
    pub first_to_last : (v : List ℤ) → is_iteration_of (on_grid g rows w b) v ≡ true
        → read_by v 0 ≡ read_by v (w.count - 1) + steps.total

-- Where 3 to 6 and 15 let pass, the steps give results, of which this holds.
abbrev pub OfSteps : Grid → (rows : List ℕ) → Window → Bounds → (Steps → Type 0) → Type 0
OfSteps g rows w b P = judge_window g rows w b ≡ Ok tt → (s : Steps) × (steps_of g rows w b ≡ Ok s) × P s

abbrev pub StepOne : Type 0
StepOne = (g : Grid) (rows : List ℕ) (w : Window) (b : Bounds) → OfSteps g rows w b (Sorted g rows w b)

abbrev pub StepTwo : Type 0
StepTwo = (g : Grid) (rows : List ℕ) (w : Window) (b : Bounds) → OfSteps g rows w b (Distances g rows w b)

abbrev pub StepThree : Type 0
StepThree = (g : Grid) (rows : List ℕ) (w : Window) (b : Bounds) → OfSteps g rows w b (Summed g rows w b)

abbrev pub OnRectangles : Type 0
OnRectangles = (g : Grid) (rows : List ℕ) (w : Window) (b : Bounds) (sizes : List ℕ)
    → (on_grid g rows w b).the_ground ≡ rectangle sizes → OfSteps g rows w b (OnRectangle g rows w b)

-- A plan is these steps, then what refuses, then the chain.
pub record PlannedBySteps (r : Request) (rows : List ℕ) (steps : Result Steps Refusal) : Type 0 where
  -- 3 to 6 and 15 come before the steps, 7 and 8 behind them, and 9 goes by their total;
  pub found : verdict_of steps ≡ judge_window r.grid rows r.window r.bounds
  pub refused : verdict_of (plan_of r rows)
      ≡ by_answer steps (λ s. judge_behind r.kernel (centred (offsets_of (dims_of r.grid) r.window)) s.total) Err
  -- the chain has the request's box, their window, their distances for its capacities, and their filters for its order.
  pub chain : (s : Steps) (c : Chain) → steps ≡ Ok s → plan_of r rows ≡ Ok c → c ≡ chain_by r.grid r.bounds r.kernel s

abbrev pub PlansBySteps : Type 0
PlansBySteps = (r : Request) (rows : List ℕ) → PlannedBySteps r rows (steps_of r.grid rows r.window r.bounds)

-- All of them.
pub record PaperSteps : Type 0 where
  pub sorted : StepOne
  pub distances : StepTwo
  pub total : StepThree
  pub rectangles : OnRectangles
  pub plans : PlansBySteps
