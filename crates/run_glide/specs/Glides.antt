-- The clocks of aligned filters: what they are handed, what they leave, and the test of what they are handed.
use Rattle.std.specs.Prelude.{ℕ, zero, suc, ◌+◌, ◌-◌, ◌*◌, ◌%◌, ◌≤◌, ◌<◌, Bool, true, List, [], ◌≡◌, length, get_or, take}
use Rattle.std.proofs.Math.Seq.{slice}
use Rattle.std.proofs.lemmas.List.Edits.{sets}
use Rattle.model.specs.Lists.{up_to}
use Rattle.model_run.specs.Kernels.{written}
use Rattle.model_run.specs.Clock.{Layout}
use Rattle.model_run.specs.Running.{Ending, Done, Spent, Starved, Full, Ended, call}
use Rattle.model.specs.declared.Kernel.{Kernel}
use Rattle.model.specs.declared.Kernel.TheVariants as kernels
use Rattle.loop_laws.specs.Passes.{ahead, flow, stepped, Lent, passing, FullFifos}
use Rattle.loop_laws.specs.Standings.{stand, ended_at}
use Rattle.loop_laws.specs.LoopTables.{walked, Tables, Stands, Rows, Rings}
use Rattle.run_glide.specs.declared.Way.{Way}
use Rattle.run_glide.specs.declared.Way.TheVariants as way
use Rattle.run_glide.specs.declared.Slid.{Slid}

-- Every iteration can be walked to: no span is 0, and no stride is longer than a grid.
pub record Walks (dims : ℕ) (spans strides : List ℕ) : Type 0 where
  pub few : dims ≤ 4
  pub each : (d : ℕ) → d < dims → (0 < get_or spans d 0) × (get_or strides d 0 ≤ 1048576)

-- What the row of a firing's words is: 256 places, of which those past the words are 0.
pub record Blank (n : ℕ) (row : List ℕ) : Type 0 where
  pub there : length row ≡ 256
  pub rest : (k : ℕ) → n ≤ k → get_or row k 0 ≡ 0

-- What a firing leaves, where the kernel adds the words of filters `ts` and writes from place o on.
abbrev pub fired_of : (kernel : Kernel) (centre : ℕ) (ts : List ℕ) (n o : ℕ) (bases tops : List ℕ) (word : ℕ) → Lent → Lent
fired_of kernel centre ts n o bases tops word l = record {
  puts = stepped bases tops (n - 1) l.puts;
  gets = stepped bases tops (n - 1) l.gets;
  store = flow word (slice 0 (n - 1) l.gets) (slice 0 (n - 1) l.puts) l.store;
  words = sets l.words o (written kernel centre ts (up_to n) (passing (n - 1) word l.puts l.gets l.store));
}

-- A ring up to below `top` lies within `room` places, and both places in it.
abbrev pub GoodPlaces : (base top u g room : ℕ) → Type 0
GoodPlaces base top u g room = (base < top) × (u < top) × (g < top) × (top ≤ room)

pub record InRings (n room : ℕ) (bases tops us gs : List ℕ) : Type 0 where
  pub some : 0 < n
  pub few : n ≤ 32
  pub each : (k : ℕ) → k + 1 < n → GoodPlaces (get_or bases k 0) (get_or tops k 0) (get_or us k 0) (get_or gs k 0) room

-- Places that lie in their rings, and a store of `room` words around them.
pub record Rung (n room : ℕ) (bases tops us gs store : List ℕ) : Type 0 where
  pub puts_there : n ≤ length us
  pub gets_there : n ≤ length gs
  pub rings : InRings n room bases tops us gs
  pub room_is : length store ≡ room

-- So many firings one after the other: of the cells from place `from` on, each `size` places behind the one before.
unfoldable pub fires_of : (kernel : Kernel) (centre : ℕ) (ts : List ℕ) (n size : ℕ) (bases tops cells : List ℕ) (from o : ℕ)
    → ℕ → Lent → Lent
fires_of kernel centre ts n size bases tops cells from o zero l = l
fires_of kernel centre ts n size bases tops cells from o (suc i) l =
    fired_of kernel centre ts n (o + i * size) bases tops (get_or cells (from + i) 0)
    (fires_of kernel centre ts n size bases tops cells from o i l)

-- So many passes: the words are written as they are.
abbrev pub passes_of : (n size : ℕ) (bases tops cells : List ℕ) (from o : ℕ) → ℕ → Lent → Lent
passes_of n size bases tops cells from o i l = fires_of kernels.Raw 0 [] n size bases tops cells from o i l

-- The call that a loop makes the clocks of, from its beginning.
abbrev pub calls : (L : Layout) (write : List ℕ → List ℕ) (size n fired : ℕ) (passed store lent out : List ℕ) (allowance : ℕ)
    → Ended
calls L write size n fired passed store lent out allowance = call L write size lent allowance
    (stand fired (take n passed) store out 0 0 0)

-- What the caller hands in: tables, counters and ring places of layout L, rows, and what a firing writes.
pub record Glides (L : Layout) (write : List ℕ → List ℕ) (kernel : Kernel) (ts : List ℕ)
    (n row iterations cells centre size fired dims : ℕ)
    (at wants caps bases tops spans strides passed puts gets store : List ℕ)
    : Type 0 where
  pub tables : Tables L (walked spans strides dims 0) n cells iterations at caps bases
  pub stands : Stands L n fired caps bases passed store
  pub more : fired < iterations
  pub most : iterations ≤ 1048576
  pub wanted : get_or wants 0 0 ≡ get_or at 0 0 + walked spans strides dims 0 fired
  pub rings : Rings n at caps bases tops passed puts gets
  pub rows : Rows (walked spans strides dims 0) row iterations
  pub walks : Walks dims spans strides
  pub writes_are : (ws : List ℕ) → write ws ≡ written kernel centre ts (up_to n) ws

-- What the loop is handed of tables and counters.
pub record Starts (full : Bool) (n row fired first position wait left : ℕ) (at wants caps passed : List ℕ) : Type 0 where
  pub full_is : full ≡ true → FullFifos n caps passed
  pub first_is : first ≡ get_or at 0 0
  pub position_is : position ≡ get_or passed 0 0
  pub wait_is : wait ≡ get_or wants 0 0 - get_or passed 0 0
  pub left_is : left ≡ row - fired % row

abbrev pub way_of : Way → Ending
way_of way.Done = Done
way_of way.Spent = Spent
way_of way.Starved = Starved
way_of way.Full = Full

-- The call ends as they do.
pub record GlidesTo (r : Slid) (L : Layout) (write : List ℕ → List ℕ) (size n iterations cells fired : ℕ)
    (passed store store' out out' lent : List ℕ) (allowance : ℕ) : Type 0 where
  pub ends : ended_at (way_of r.how)
      (stand (fired + r.firings) (ahead r.clocks (take n passed)) store' out' r.clocks r.clocks r.firings)
      ≡ calls L write size n fired passed store lent out allowance
  pub had : r.clocks ≤ length lent
  pub allowed : r.clocks ≤ allowance
  pub fewer : r.firings ≤ r.clocks
  pub inside : get_or passed 0 0 + r.clocks ≤ cells
  pub most : fired + r.firings ≤ iterations

-- ---- the test

-- Rows of a grid, in which filter 0 is not past the cell that it wants.
pub record InRows (dims row iterations first wanted position : ℕ) (spans strides : List ℕ) : Type 0 where
  pub walks : Walks dims spans strides
  pub some : 0 < row
  pub most : iterations ≤ 1048576
  pub first_low : first ≤ 1048576
  pub wanted_low : wanted ≤ 1048576
  pub due : position ≤ wanted

pub record Sound (n dims row iterations room : ℕ) (at wants bases tops spans strides passed puts gets : List ℕ) : Type 0 where
  pub in_rows : InRows dims row iterations (get_or at 0 0) (get_or wants 0 0) (get_or passed 0 0) spans strides
  pub in_rings : InRings n room bases tops puts gets

-- What holds of the way in which the clocks stopped.
abbrev pub Stops : Way → (done spent starved full : Type 0) → Type 0
Stops way.Done done spent starved full = done
Stops way.Spent done spent starved full = spent
Stops way.Starved done spent starved full = starved
Stops way.Full done spent starved full = full

-- What holds of the clocks where the test passes, whether or not the tables are some layout's: how many they are, why they
-- stopped, and what of store and output is as it was.
pub record Within (r : Slid) (n size iterations fired : ℕ) (tops store store' out out' lent : List ℕ)
    (allowance : ℕ) : Type 0 where
  pub had : r.clocks ≤ length lent
  pub allowed : r.clocks ≤ allowance
  pub fewer : r.firings ≤ r.clocks
  pub most : r.firings ≤ iterations - fired
  pub room : r.firings * size ≤ length out
  pub stops : Stops r.how (iterations ≤ fired + r.firings) (r.clocks ≡ allowance) (r.clocks ≡ length lent)
      (length out < r.firings * size + size)
  pub store_kept : (i : ℕ) → ((k : ℕ) → k + 1 < n → get_or tops k 0 ≤ i) → get_or store' i 0 ≡ get_or store i 0
  pub out_kept : (i : ℕ) → r.firings * size ≤ i → get_or out' i 0 ≡ get_or out i 0

-- Nothing was done.
pub record Left (r : Slid) (store store' out out' : List ℕ) : Type 0 where
  pub stopped : r.how ≡ way.Spent
  pub no_clocks : r.clocks ≡ 0
  pub no_firings : r.firings ≡ 0
  pub store_kept : store' ≡ store
  pub out_kept : out' ≡ out

-- Where the test fails nothing was done; where it passes that much holds.
abbrev pub ByTest : (sound left within : Type 0) → Type 0
ByTest sound left within = ((sound → ⊥) → left) × (sound → within)
