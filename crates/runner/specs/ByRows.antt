-- The clocks of a call on rows, row by row: the tables that they go by, and where they stand between two rows.
use Rattle.std.specs.Prelude.{ℕ, suc, ◌+◌, ◌-◌, ◌*◌, ◌≤◌, ◌<◌, List, ◌≡◌, length, get_or, take, drop}
use Rattle.model.specs.Lists.{sum}
use Rattle.model.specs.Grounds.{cells_above}
use Rattle.model.specs.Grounds.Ground.{skewed}
use Rattle.model.specs.Windows.{centre_of}
use Rattle.model.specs.Values.{Trimmed, rows_of, offsets_of, part_of}
use Rattle.model.specs.Iterations.{cells_of}
use Rattle.model_run.specs.Store.{first_place}
use Rattle.model.specs.Sized.{Proper}
use Rattle.model_run.specs.Clock.{Layout}
use Rattle.model_run.specs.Running.{layout, filters_of, written_by, call}
use Rattle.model.specs.declared.Bounds.{Bounds}
use Rattle.model.specs.declared.Kernel.{Kernel}
use Rattle.model.specs.declared.Order.{Order}
use Rattle.model.specs.declared.Window.{Window}
use Rattle.flow.specs.Machine.{Invariant}
use Rattle.run_laws.specs.Accepted.{Accepted}
use Rattle.kernel_terms.specs.FilterTables.{filters_for}
use Rattle.geometry.specs.Parts.{Filled}
use Rattle.rows.specs.Courses.{row_length}
use Rattle.rows.specs.Surveys.{Surveyed}
use Rattle.rows.specs.declared.RowCourse.{RowCourse}
use Rattle.row_courses.specs.CourseTables.{lengths_above}
use Rattle.loop_laws.specs.Standings.{counting, stand}
use Rattle.loop_laws.specs.Stretches.{stretch}
use Rattle.run_glide.specs.Glides.{calls}

-- An accepted value on rows, and its tables: the course of its iterations, how many cells lie above each row, and the places
-- of the FIFOs.
pub record RowTables (t : Trimmed) (kernel : Kernel) (order : Order) (n count cells centre : ℕ) (c : RowCourse)
    (rows above caps bases tops : List ℕ) : Type 0 where
  pub window : Window
  pub bounds : Bounds
  pub surveyed : Surveyed count rows window bounds c
  pub ground_is : t.the_ground ≡ skewed (rows_of count rows)
  pub offsets_are : t.offsets ≡ offsets_of 2 window
  pub part_is : t.part ≡ part_of 2 bounds
  pub proper : Proper t
  pub accepted : Accepted t
  pub count_is : n ≡ t.count
  pub cells_are : cells ≡ cells_of t
  pub kernel_is : kernel ≡ t.kernel
  pub centre_is : centre ≡ centre_of t.offsets
  pub filters_are : filters_for n order ≡ filters_of t
  pub above_are : Filled 513 0 (cells_above (rows_of count rows)) (count + 1) above
  pub caps_are : (k : ℕ) → suc k < n → get_or caps k 0 ≡ get_or t.capacities k 0
  pub bases_are : (k : ℕ) → suc k < n → get_or bases k 0 ≡ first_place (λ i. get_or t.capacities i 0) k
  pub tops_are : (k : ℕ) → suc k < n → get_or tops k 0 ≡ get_or bases k 0 + get_or caps k 0

-- The first n counters are those of a state that is not refused, and the store has room.
pub record Counted (t : Trimmed) (n fired : ℕ) (passed store : List ℕ) : Type 0 where
  pub there : length passed ≡ 32
  pub room : sum t.capacities ≤ length store
  pub holds : Invariant (layout t) (counting fired (take n passed))

-- How many iterations lie above the course's row v, and those of the row.
abbrev pub iterations_above : (count : ℕ) (rows : List ℕ) → RowCourse → (v : ℕ) → ℕ
iterations_above count rows c v = lengths_above (row_length (rows_of count rows) c) v

abbrev pub row_of : Trimmed → (count : ℕ) (rows : List ℕ) → RowCourse → (v : ℕ) → Layout
row_of t count rows c v = stretch (iterations_above count rows c v) (iterations_above count rows c (v + 1)) (layout t)

-- A row of `size` iterations, of which j are made.
pub record AtRow (t : Trimmed) (n count : ℕ) (rows : List ℕ) (c : RowCourse) (v size j : ℕ) (passed store : List ℕ) : Type 0 where
  pub below : v < c.height
  pub size_is : size ≡ row_length (rows_of count rows) c v
  pub within : j ≤ size
  pub counted : Counted t n (iterations_above count rows c v + j) passed store

-- All that the call is handed.
pub record RowCall (t : Trimmed) (kernel : Kernel) (order : Order) (n count cells centre : ℕ) (c : RowCourse)
    (rows above iterations caps bases tops : List ℕ) (fired : ℕ) (passed store : List ℕ)
    : Type 0 where
  pub tables : RowTables t kernel order n count cells centre c rows above caps bases tops
  pub iterations_are : Filled 513 0 (iterations_above count rows c) (c.height + 1) iterations
  pub counted : Counted t n fired passed store

-- Between two rows: the call goes on from here, in row v, where it began with `fired` firings, with these counters, store and
-- output.
pub record RowsGone (t : Trimmed) (n count : ℕ) (rows : List ℕ) (c : RowCourse) (size fired : ℕ)
    (passed₀ store₀ lent out₀ : List ℕ) (allowance : ℕ)
    (v taken made firings : ℕ) (passed store out : List ℕ) : Type 0 where
  pub goes : call (layout t) (written_by t) size lent (allowance - made)
      (stand (fired + firings) (take n passed) store out taken made firings)
      ≡ calls (layout t) (written_by t) size n fired passed₀ store₀ lent out₀ allowance
  pub most : v ≤ c.height
  pub from : iterations_above count rows c v ≤ fired + firings
  pub upto : v < c.height → fired + firings ≤ iterations_above count rows c (v + 1)
  pub counted : Counted t n (fired + firings) passed store
  pub rest : drop n passed ≡ drop n passed₀
  pub had : taken ≤ length lent
  pub allowed : made ≤ allowance
  pub taken_fewer : taken ≤ made
  pub firings_fewer : firings ≤ made
  pub room : firings * size ≤ length out
  pub same_store : length store ≡ length store₀
  pub same_out : length out ≡ length out₀
