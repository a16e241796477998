-- The clocks before the filters are aligned: what they are handed, what they leave, and the test of what they are handed.
use Rattle.std.specs.Prelude.{ℕ, zero, suc, ◌+◌, ◌-◌, ◌≤◌, ◌<◌, false, List, ◌≡◌, length, get_or, take, drop}
use Rattle.model_run.specs.Clock.{Layout}
use Rattle.model_run.specs.Store.{first_place}
use Rattle.model_run.specs.Running.{Spent, Starved, Stalled, Ended, call}
use Rattle.flow.specs.Machine.{Invariant}
use Rattle.loop_laws.specs.Passes.{of}
use Rattle.loop_laws.specs.Sweeps.{source, Lined, Ringed}
use Rattle.loop_laws.specs.Standings.{counting, stand, ended_at}
use Rattle.loop_laws.specs.LoopTables.{Tables, Stands, Fills}
use Rattle.run_fill.specs.declared.Stop.{Stop}
use Rattle.run_fill.specs.declared.Stop.TheVariants as stop
use Rattle.run_fill.specs.declared.Filled.{Filled}

-- What the finding of the ring places is handed: counters in order, each FIFO within its capacity.
pub record Placing (n : ℕ) (bases tops caps ps puts gets : List ℕ) : Type 0 where
  pub few : n ≤ 32
  pub puts_there : length puts ≡ 32
  pub gets_there : length gets ≡ 32
  pub fits : (k : ℕ) → suc k < n → (get_or ps (suc k) 0 ≤ get_or ps k 0) × (get_or ps k 0 ≤ get_or ps (suc k) 0 + get_or caps k 0)
  pub tops_are : (k : ℕ) → suc k < n → get_or tops k 0 ≡ get_or bases k 0 + get_or caps k 0
  pub small : (k : ℕ) → suc k < n → get_or tops k 0 + get_or caps k 0 < 18446744073709551616

-- Tables, counters, ring places and a store that are some layout's.
pub record Fillable (n size : ℕ) (at wants caps bases tops passed puts gets store : List ℕ) : Type 0 where
  pub layout : Layout
  pub walk : ℕ → ℕ
  pub iterations : ℕ
  pub fired : ℕ
  pub fills : Fills layout walk n size iterations fired at wants caps bases tops passed puts gets store

-- What the call comes to from where the clocks before stopped: `rest` where the filters are aligned.
abbrev pub stop_of : Stop → (rest spent starved stalled : Ended) → Ended
stop_of stop.Aligned rest spent starved stalled = rest
stop_of stop.Spent rest spent starved stalled = spent
stop_of stop.Starved rest spent starved stalled = starved
stop_of stop.Stalled rest spent starved stalled = stalled

-- All that the clocks leave, where they are L's.
pub record FillsTo (how : Stop) (taken clocks : ℕ) (L : Layout) (n fired : ℕ)
    (at caps bases passed passed' puts' gets' store store' lent : List ℕ) (allowance : ℕ) : Type 0 where
  pub lines : how ≡ stop.Aligned → Lined n at passed'
  pub puts_there : length puts' ≡ 32
  pub gets_there : length gets' ≡ 32
  pub rings : Ringed n bases caps passed' puts' gets'
  pub holds : Invariant L (counting fired (take n passed'))
  pub rest : drop n passed' ≡ drop n passed
  pub there : length passed' ≡ 32
  pub had : taken ≤ length lent
  pub allowed : clocks ≤ allowance
  pub fewer : taken ≤ clocks
  pub resumes : (write : List ℕ → List ℕ) (size : ℕ) (out : List ℕ) → stop_of how
      (call L write size lent (allowance - clocks) (stand fired (take n passed') store' out taken clocks 0))
      (ended_at Spent (stand fired (take n passed') store' out taken clocks 0))
      (ended_at Starved (stand fired (take n passed') store' out taken clocks 0))
      (ended_at Stalled (stand fired (take n passed') store' out taken clocks 0))
      ≡ call L write size lent allowance (stand fired (take n passed) store out 0 0 0)

-- What the caller hands in: the tables and the counters of layout L, with firings left.
pub record Handed (L : Layout) (walk : ℕ → ℕ) (n cells iterations fired : ℕ)
    (at wants caps bases tops passed store : List ℕ) : Type 0 where
  pub tables : Tables L walk n cells iterations at caps bases
  pub stands : Stands L n fired caps bases passed store
  pub more : fired < iterations
  pub wants_are : (k : ℕ) → k < n → get_or wants k 0 ≡ L.wants fired k
  pub tops_are : (k : ℕ) → suc k < n → get_or tops k 0 ≡ get_or bases k 0 + get_or caps k 0

-- ---- the test

-- A filter at p wants cell x of the stream, w behind a, and is past neither that nor its source.
abbrev pub GoodCounter : (source size w a x p : ℕ) → Type 0
GoodCounter source size w a x p = (x < size) × (x ≡ a + w) × (p ≤ x) × (p ≤ source)

-- A FIFO of c places begins at `from`, lies within `room` places, and is not over its capacity.
abbrev pub GoodRing : (from room c base top p q : ℕ) → Type 0
GoodRing from room c base top p q = (c ≤ 16384) × (base ≡ from) × (top ≡ base + c) × (top ≤ room) × (p ≤ q + c)

pub record Counted (n size : ℕ) (at wants ps : List ℕ) : Type 0 where
  pub some : 0 < n
  pub few : n ≤ 32
  pub most : size ≤ 1048576
  pub each : (k : ℕ) → k < n
      → GoodCounter (source size ps k) size (get_or wants 0 0 - get_or at 0 0) (get_or at k 0) (get_or wants k 0) (get_or ps k 0)

abbrev pub Housed : (n room : ℕ) (caps bases tops ps : List ℕ) → Type 0
Housed n room caps bases tops ps = (k : ℕ) → k + 1 < n
    → GoodRing (first_place (of caps) k) room (get_or caps k 0) (get_or bases k 0) (get_or tops k 0) (get_or ps k 0)
    (get_or ps (k + 1) 0)

pub record Sound (n size room : ℕ) (at wants caps bases tops ps : List ℕ) : Type 0 where
  pub counted : Counted n size at wants ps
  pub housed : Housed n room caps bases tops ps

-- The layout whose tables they are where they pass: one iteration, which is still to be fired.
unfoldable pub wants_once : (wants : List ℕ) (size : ℕ) → ℕ → ℕ → ℕ
wants_once wants size zero k = get_or wants k 0
wants_once wants size (suc j) k = size

abbrev pub once : (n size : ℕ) (wants caps : List ℕ) → Layout
once n size wants caps = record { wants = wants_once wants size; capacity = of caps; filters = n; cells = size; iterations = 1 }

-- Nothing was done.
pub record Left (r : Filled) (passed puts puts' gets gets' store store' : List ℕ) : Type 0 where
  pub stopped : r.how ≡ stop.Stalled
  pub none_taken_lem : r.taken ≡ 0
  pub no_clocks : r.clocks ≡ 0
  pub counters : r.passed ≡ passed
  pub not_full : r.full ≡ false
  pub puts_kept : puts' ≡ puts
  pub gets_kept : gets' ≡ gets
  pub store_kept : store' ≡ store

-- Where the test fails nothing was done; where it passes that much holds.
abbrev pub ByTest : (sound left filled : Type 0) → Type 0
ByTest sound left filled = ((sound → ⊥) → left) × (sound → filled)
