-- Demand 2, of a plan: the sorted window and the reuse distances, and the author's order.
use Rattle.std.specs.Prelude.{ℕ, suc, ◌+◌, ◌-◌, ◌≤◌, ◌<◌, true, List, [], ◌≡◌, length, get_or, Ok}
use Rattle.model.specs.Lists.{sum}
use Rattle.model.specs.Windows.{Members}
use Rattle.model.specs.Grounds.Ground.{rectangle}
use Rattle.model.specs.Values.{Trimmed, ground_of, dims_of, offsets_of, part_of, trimmed}
use Rattle.model.specs.Iterations.{iterations_of, reads_of}
use Rattle.model.specs.Judging.{judge_chain}
use Rattle.model.specs.Planning.{judge_request, planned_chain, plan_of}
use Rattle.model.specs.declared.Chain.{Chain}
use Rattle.model.specs.declared.Request.{Request}
use Rattle.grid_laws.specs.Right.{Right, Planned}

-- Values of the same grid, box and window: the same cells, the same box or none, and the same offsets in any order;
-- capacities, orders and kernels as they like.
pub record SameWindow (t u : Trimmed) : Type 0 where
  pub the_ground : t.the_ground ≡ u.the_ground
  pub part : t.part ≡ u.part
  pub each : Members t.offsets u.offsets
  pub no_other : Members u.offsets t.offsets

-- t: the planned chain of the request r, trimmed.
pub record PlanRight (r : Request) (rows : List ℕ) (t : Trimmed) : Type 0 where
  -- The grid, the box and the kernel are the request's: "Planning copies it", and where none stood there is none.
  pub dims : t.dims ≡ dims_of r.grid
  pub the_ground : t.the_ground ≡ ground_of r.grid rows
  pub part : t.part ≡ part_of (dims_of r.grid) r.bounds
  pub kernel : t.kernel ≡ r.kernel
  -- The offsets are the request's, as many, each once.
  pub count : t.count ≡ r.window.count
  pub each : Members (offsets_of (dims_of r.grid) r.window) t.offsets
  pub no_other : Members t.offsets (offsets_of (dims_of r.grid) r.window)
  -- The author's order stands, a byte for each reference, and byte i names the filter that holds the author's reference i.
  pub ordered : t.ordered ≡ true
  pub terms : length t.order ≡ r.window.count
  pub holds : (i : ℕ) → i < r.window.count
      → (get_or t.order i 0 < t.count)
      × (get_or t.offsets (get_or t.order i 0) [] ≡ get_or (offsets_of (dims_of r.grid) r.window) i [])
  -- They fall, and the capacities are the reuse distances of neighbours,
  pub planned : Planned t
  -- which no iteration exceeds and one has: "the largest over all iterations, or over the box's where a box is given";
  pub most : (j k : ℕ) → j < iterations_of t → suc k < t.count → reads_of t j k ≤ reads_of t j (suc k) + get_or t.capacities k 0
  pub reached : (k : ℕ) → suc k < t.count
      → (j : ℕ) × (j < iterations_of t) × (reads_of t j k ≡ reads_of t j (suc k) + get_or t.capacities k 0)
  -- on a rectangle every iteration has them,
  pub every : (sizes : List ℕ) → t.the_ground ≡ rectangle sizes → (j k : ℕ) → j < iterations_of t → suc k < t.count
      → reads_of t j k ≡ reads_of t j (suc k) + get_or t.capacities k 0
  -- and their sum is the reuse distance of the first and the last reference.
  pub total : (sizes : List ℕ) → t.the_ground ≡ rectangle sizes → (j : ℕ) → j < iterations_of t
      → reads_of t j 0 ≡ reads_of t j (t.count - 1) + sum t.capacities
  -- No chain of the same grid, box and window, accepted or not, whose order and capacities are right has fewer places.
  pub least : (c : Chain) (rows : List ℕ) → SameWindow t (trimmed c rows) → Right (trimmed c rows)
      → sum t.capacities ≤ sum (trimmed c rows).capacities

-- What planning gives.
pub record PlanGives (r : Request) (rows : List ℕ) : Type 0 where
  pub answer : plan_of r rows ≡ Ok (planned_chain r rows)
  pub accepted : judge_chain (planned_chain r rows) rows ≡ Ok tt
  pub right : PlanRight r rows (trimmed (planned_chain r rows) rows)

-- A request that no number turns back is planned, and its chain is accepted.
abbrev pub PlanDemand : Type 0
PlanDemand = (r : Request) (rows : List ℕ) → judge_request r rows ≡ Ok tt → PlanGives r rows
