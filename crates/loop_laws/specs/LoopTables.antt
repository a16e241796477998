-- A chain as numbers, beside the tables that a call works on.
use Rattle.std.specs.Prelude.{ℕ, zero, suc, ◌+◌, ◌-◌, ◌*◌, ◌/◌, ◌%◌, ◌≤◌, ◌<◌, List, ◌≡◌, length, get_or, take}
use Rattle.model_run.specs.Clock.{Layout}
use Rattle.flow.specs.Machine.{Lawful, Invariant}
use Rattle.loop_laws.specs.Passes.{of, Aligned, Places, gets, puts}
use Rattle.loop_laws.specs.Sweeps.{Ringed}
use Rattle.loop_laws.specs.Standings.{counting}

-- How far the cells that iteration j reads lie behind those of iteration 0, where `spans` and `strides` have, for each of the
-- m dimensions from d on, how many iterations and how many places one index there is.
unfoldable pub walked : (spans strides : List ℕ) (m d j : ℕ) → ℕ
walked spans strides zero d j = 0
walked spans strides (suc m) d j =
    j / get_or spans d 0 * get_or strides d 0 + walked spans strides m (suc d) (j % get_or spans d 0)

-- The tables of n filters: in iteration f reference k reads `at k` plus the walk to f.
pub record Tables (L : Layout) (walk : ℕ → ℕ) (n cells iterations : ℕ) (at caps bases : List ℕ) : Type 0 where
  pub filters_are : L.filters ≡ n
  pub cells_are : L.cells ≡ cells
  pub iterations_are : L.iterations ≡ iterations
  pub some : 0 < n
  pub few : n ≤ 32
  pub most : cells ≤ 1048576
  pub lawful : Lawful L
  pub reads : (f k : ℕ) → f < iterations → k < n → L.wants f k ≡ get_or at k 0 + walk f
  pub small : (k : ℕ) → suc k < n → get_or caps k 0 ≤ 16384
  pub places : Places L.capacity n (of bases) (of caps)

-- The first n counters are those of a state that is not refused, and the store has the FIFOs' places.
pub record Stands (L : Layout) (n fired : ℕ) (caps bases passed store : List ℕ) : Type 0 where
  pub there : length passed ≡ 32
  pub within : (k : ℕ) → suc k < n → get_or bases k 0 + get_or caps k 0 ≤ length store
  pub holds : Invariant L (counting fired (take n passed))

-- What the clocks before the filters are aligned are handed.
pub record Fills (L : Layout) (walk : ℕ → ℕ) (n cells iterations fired : ℕ)
    (at wants caps bases tops passed puts₀ gets₀ store : List ℕ) : Type 0 where
  pub tables : Tables L walk n cells iterations at caps bases
  pub stands : Stands L n fired caps bases passed store
  pub more : fired < iterations
  pub wants_are : (k : ℕ) → k < n → get_or wants k 0 ≡ L.wants fired k
  pub tops_are : (k : ℕ) → suc k < n → get_or tops k 0 ≡ get_or bases k 0 + get_or caps k 0
  pub puts_there : length puts₀ ≡ 32
  pub gets_there : length gets₀ ≡ 32
  pub rings : Ringed n bases caps passed puts₀ gets₀

-- Within a row, `row` iterations long, the walk rises by 1.
pub record Rows (walk : ℕ → ℕ) (row iterations : ℕ) : Type 0 where
  pub some : 0 < row
  pub on : (f : ℕ) → suc f < iterations → suc (f % row) < row → walk (suc f) ≡ suc (walk f)

-- The filters are aligned, and the ring places are those of the counters.
pub record Rings (n : ℕ) (at caps bases tops passed puts₀ gets₀ : List ℕ) : Type 0 where
  pub tops_are : (k : ℕ) → suc k < n → get_or tops k 0 ≡ get_or bases k 0 + get_or caps k 0
  pub aligned : Aligned (of at) (of caps) 0 (take n passed)
  pub puts_there : n ≤ length puts₀
  pub gets_there : n ≤ length gets₀
  pub at_puts : take (n - 1) puts₀ ≡ puts (of bases) (of caps) 0 (take n passed)
  pub at_gets : take (n - 1) gets₀ ≡ gets (of bases) (of caps) 0 (take n passed)
