-- What a run call prepares before its clocks: the chain's numbers, in arrays.
use Rattle.std.specs.Prelude.{ℕ, zero, suc, ◌+◌, ◌*◌, ◌/◌, ◌%◌, ◌≤◌, ◌<◌, Bool, List, ◌≡◌, length, get_or, drop, replicate}
use Rattle.model.specs.Geometry.{cell_count}
use Rattle.model.specs.Grounds.{ground_sizes}
use Rattle.model.specs.Grounds.Ground.{rectangle}
use Rattle.model.specs.Values.{Trimmed}
use Rattle.model.specs.Iterations.{cells_of, iterations_of, extents_of, reads_of}
use Rattle.model.specs.Judging.{most_cells}
use Rattle.model_run.specs.Clock.{Layout}
use Rattle.model_run.specs.Running.{layout, counters_of, bad_state}
use Rattle.model.specs.declared.CellsPassed.{CellsPassed}
use Rattle.model.specs.declared.State.{State}
use Rattle.model.specs.Sized.{Proper, Fitting}
use Rattle.run_laws.specs.Accepted.{Accepted}

-- The entry at a place of an array, and 0 past its end.
abbrev pub number_at : List ℕ → ℕ → ℕ
number_at xs i = get_or xs i 0

-- An array of 32 entries, all 0.
abbrev pub blank : List ℕ
blank = replicate 32 0

-- An array whose first n entries became f's, and whose others are as they were in `old`.
pub record Filled (old : List ℕ) (f : ℕ → ℕ) (n : ℕ) (xs : List ℕ) : Type 0 where
  pub long : length xs ≡ length old
  pub done : (i : ℕ) → i < n → number_at xs i ≡ f i
  pub left : (i : ℕ) → n ≤ i → number_at xs i ≡ number_at old i

-- An array of `size` entries that starts with n entries of `from`, which are numbers of 32 bits.
pub record Widened (size : ℕ) (from : List ℕ) (n : ℕ) (xs : List ℕ) : Type 0 where
  pub long : length xs ≡ size
  pub same : (i : ℕ) → i < n → number_at xs i ≡ number_at from i
  pub small : (i : ℕ) → number_at xs i < 4294967296

-- How many cells iteration j lies behind the first, in `dims` dimensions of these extents and strides: each index times its
-- stride, the last one first.
unfoldable pub walk_by : (extents strides : ℕ → ℕ) (dims j : ℕ) → ℕ
walk_by extents strides zero j = 0
walk_by extents strides (suc d) j = j % extents d * strides d + walk_by extents strides d (j / extents d)

-- Extents and strides by which iteration j can be walked to.
pub record Walks (dims : ℕ) (es ss : List ℕ) (j : ℕ) : Type 0 where
  pub few : dims ≤ 4
  pub some : (d : ℕ) → d < dims → 0 < number_at es d
  pub near : walk_by (number_at es) (number_at ss) dims j ≤ most_cells

-- On a rectangle: the extents of the iterations, and the strides, which "are those of the whole grid": dimension d's is the
-- number of cells of the dimensions behind it.
pub record Spaced (t : Trimmed) (dims : ℕ) (es ss : List ℕ) : Type 0 where
  pub fitting : Fitting t
  pub rectangular : t.the_ground ≡ rectangle (ground_sizes t.the_ground)
  pub dimensions : length (ground_sizes t.the_ground) ≡ dims
  pub few : dims ≤ 4
  pub cells : cells_of t ≤ most_cells
  pub extents_are : (d : ℕ) → d < dims → number_at es d ≡ get_or (extents_of t) d 0
  pub strides_are : (d : ℕ) → d < dims → number_at ss d ≡ cell_count (drop (suc d) (ground_sizes t.the_ground))

-- An accepted chain of n filters, its cells and its iterations counted.
pub record Counted (t : Trimmed) (n cells iterations : ℕ) : Type 0 where
  pub proper : Proper t
  pub accepted : Accepted t
  pub count_is : t.count ≡ n
  pub cells_are : cells_of t ≡ cells
  pub iterations_are : iterations_of t ≡ iterations

-- Where its references read on a rectangle: `at` has the positions of the first iteration.
pub record Shaped (t : Trimmed) (dims n cells iterations : ℕ) (es ss at : List ℕ) : Type 0 where
  pub counted : Counted t n cells iterations
  pub spaced : Spaced t dims es ss
  pub reads_are : (k : ℕ) → k < n → number_at at k ≡ reads_of t 0 k

-- The capacities of a chain's FIFOs.
pub record Capped (t : Trimmed) (n : ℕ) (caps : List ℕ) : Type 0 where
  pub count_is : t.count ≡ n
  pub capacities_are : (k : ℕ) → suc k < n → number_at caps k ≡ get_or t.capacities k 0

-- Filter k's input counter.
abbrev pub counter_at : List CellsPassed → ℕ → ℕ
counter_at ps k = (get_or ps k (record { 0 = 0 })).0

-- What 11 looks at of a chain's layout, where `fired` firings are made: `wants` are the next wanted cells, and `last` those
-- that were fired last, if any were.
pub record Laid (L : Layout) (n cells iterations fired : ℕ) (caps wants last : List ℕ) : Type 0 where
  pub cells_are : L.cells ≡ cells
  pub iterations_are : L.iterations ≡ iterations
  pub capacity_is : (k : ℕ) → suc k < n → L.capacity k ≡ number_at caps k
  pub wanted : (k : ℕ) → k < n → L.wants fired k ≡ number_at wants k
  pub fired_last : (f k : ℕ) → fired ≡ suc f → k < n → L.wants f k ≡ number_at last k

-- A state taken up by a run call of n filters: its input counters, the cells wanted next, and whether 11 turns it back.
pub record TakenUp (t : Trimmed) (s : State) (n : ℕ) (bad : Bool) (passed wants : List ℕ) : Type 0 where
  pub bad_is : bad ≡ bad_state (layout t) (counters_of n s)
  pub passed_are : Filled blank (counter_at s.passed) n passed
  pub wants_are : Filled blank (λ k. (layout t).wants s.fired.0 k) n wants
