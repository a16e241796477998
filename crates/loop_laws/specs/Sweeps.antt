-- A clock without firing, as tables have it: the splitters' turns from the last to the first, each with its word.
use Rattle.std.specs.Prelude.{ℕ, zero, suc, ◌+◌, ◌*◌, ◌%◌, ◌≤◌, ◌<◌, Bool, true, false, cond, List, ◌++◌, ◌≡◌, ltb, length, get_or, drop, set}
use Rattle.std.proofs.Math.Seq.{slice}
use Rattle.model.specs.Lists.{sum}
use Rattle.model_run.specs.Clock.{turn, turns}
use Rattle.model_run.specs.Store.{stored}
use Rattle.loop_laws.specs.Passes.{of, step, Places}

-- What filter k is presented ends here, where the filters stand at f: at the cells' count, or where the filter before it is.
abbrev pub before : (cells : ℕ) (f : ℕ → ℕ) → ℕ → ℕ
before cells f zero = cells
before cells f (suc k) = f k

unfoldable pub source : (cells : ℕ) → List ℕ → ℕ → ℕ
source cells ps k = before cells (of ps) k

-- The counters after the splitters' turns: those past n as they were.
unfoldable pub swept : (wants caps ps : List ℕ) (n cells : ℕ) → List ℕ
swept wants caps ps n cells = turns (of wants) (of caps) 0 cells (slice 0 n ps) ++ drop n ps

-- FIFO k's ring places, where it has any: the next cell goes to `puts` at k, the head is at `gets` at k.
abbrev pub Ringed : (n : ℕ) (bases caps ps puts gets : List ℕ) → Type 0
Ringed n bases caps ps puts gets = (k : ℕ) → suc k < n → 0 < get_or caps k 0
    → (get_or puts k 0 ≡ get_or bases k 0 + get_or ps k 0 % get_or caps k 0)
    × (get_or gets k 0 ≡ get_or bases k 0 + get_or ps (suc k) 0 % get_or caps k 0)

-- The word that filter k is presented, where the heads of the FIFOs are at `gets`.
unfoldable pub word_at : (k word : ℕ) (gets store : List ℕ) → ℕ
word_at zero word gets store = word
word_at (suc i) word gets store = get_or store (get_or gets i 0) 0

-- The heads after filter k took its word.
unfoldable pub gets_on : (k : ℕ) (bases tops gets : List ℕ) → List ℕ
gets_on zero bases tops gets = gets
gets_on (suc i) bases tops gets = set gets i (step (get_or bases i 0) (get_or tops i 0) (get_or gets i 0))

-- Filter k, of n, has put the word x into the FIFO behind it; there is none behind the last.
pub record PutOn (n k x : ℕ) (bases tops puts puts' store store' : List ℕ) : Type 0 where
  pub inner : k + 1 < n
      → (puts' ≡ set puts k (step (get_or bases k 0) (get_or tops k 0) (get_or puts k 0)))
      × (store' ≡ set store (get_or puts k 0) x)
  pub last : n ≤ k + 1 → (puts' ≡ puts) × (store' ≡ store)

-- What the splitters' turns are handed: counters, ring places and a store whose FIFOs have c's capacities.
pub record Turns (c : ℕ → ℕ) (n : ℕ) (bases tops caps ps puts gets store : List ℕ) : Type 0 where
  pub few : n ≤ 32
  pub ps_there : length ps ≡ 32
  pub puts_there : length puts ≡ 32
  pub gets_there : length gets ≡ 32
  pub low : (k : ℕ) → k < n → get_or ps k 0 ≤ 1048576
  pub small : (k : ℕ) → suc k < n → get_or caps k 0 ≤ 16384
  pub places : Places c n (of bases) (of caps)
  pub tops_are : (k : ℕ) → suc k < n → get_or tops k 0 ≡ get_or bases k 0 + get_or caps k 0
  pub within : (k : ℕ) → suc k < n → get_or bases k 0 + get_or caps k 0 ≤ length store
  pub fits : (k : ℕ) → suc k < n → (get_or ps (suc k) 0 ≤ get_or ps k 0) × (get_or ps k 0 ≤ get_or ps (suc k) 0 + get_or caps k 0)
  pub rings : Ringed n bases caps ps puts gets

-- What they leave; `moved` tells whether a filter moved.
pub record Turned (c : ℕ → ℕ) (n cells word : ℕ) (wants bases caps ps ps' puts' gets' store store' : List ℕ)
    (moved : Bool) : Type 0 where
  pub counters : ps' ≡ swept wants caps ps n cells
  pub words : store' ≡ stored c 0 word store (slice 0 n ps) (slice 0 n ps') store
  pub puts_there : length puts' ≡ 32
  pub gets_there : length gets' ≡ 32
  pub rings : Ringed n bases caps ps' puts' gets'
  pub still : moved ≡ false → (ps' ≡ ps) × (store' ≡ store)
  pub up : moved ≡ true → sum (slice 0 n ps) < sum (slice 0 n ps')

-- Each FIFO holds as many cells as its two references are apart, and one at least.
abbrev pub Lined : (n : ℕ) (at ps : List ℕ) → Type 0
Lined n at ps = (k : ℕ) → k + 1 < n
    → (get_or ps (k + 1) 0 < get_or ps k 0) × (get_or ps k 0 + get_or at (k + 1) 0 ≡ get_or ps (k + 1) 0 + get_or at k 0)

-- ---- the same filters move clock after clock

-- The first cell for which filter k, of n, has no place behind it: the filter there is at q after its turn; the last needs no
-- place.
unfoldable pub room_for : (n k cap p q : ℕ) → ℕ
room_for n k cap p q = cond (ltb (suc k) n) (q + cap) (suc p)

module _ (n cells : ℕ) (w c g : ℕ → ℕ) where
  -- In a clock without firing filter k, which stands at f k, goes g k cells on.
  abbrev pub Goes : (ℕ → ℕ) → Type 0
  Goes f = (k : ℕ) → k < n → f k + g k ≡ turn (before cells f k) (w k) (room_for n k (c k) (f k) (f (suc k) + g (suc k))) (f k)

  -- So it does in each of t clocks.
  abbrev pub Again : (ℕ → ℕ) → ℕ → Type 0
  Again f t = (i : ℕ) → i < t → Goes (λ k. f k + i * g k)

-- `count` tells whether one of n filters moves: where it is 0 none does, else there is one that does.
pub record Movers (n : ℕ) (goes : List ℕ) (count : ℕ) : Type 0 where
  pub none : count ≡ 0 → (k : ℕ) → k < n → get_or goes k 0 ≡ 0
  pub one : 0 < count → (k : ℕ) × (k < n) × (0 < get_or goes k 0)

-- Of one filter at p: it goes g cells on in each of t clocks, where its source, at s, goes sg on, and the first cell without
-- a place, b before the clock, goes bg on.
abbrev pub Keeps : (g p w s sg b bg t : ℕ) → Type 0
Keeps g p w s sg b bg t = (i : ℕ) → i < t → p + i * g + g ≡ turn (s + i * sg) w (b + i * bg + bg) (p + i * g)

-- What filter k's source does, where the stream stays at its end,
abbrev pub goes_before : (g : ℕ → ℕ) → ℕ → ℕ
goes_before g zero = 0
goes_before g (suc k) = g k

-- and the first cell without a place behind filter k, before the clock and as it goes on in it: behind the last there is
-- always one.
unfoldable pub room_at : (n k cap p q : ℕ) → ℕ
room_at n k cap p q = cond (ltb (suc k) n) (q + cap) p

unfoldable pub room_goes : (n k q : ℕ) → ℕ
room_goes n k q = cond (ltb (suc k) n) q 1

-- Filter k, of those that stand at f, keeps to what it does.
abbrev pub KeepsAt : (n cells : ℕ) (w c g f : ℕ → ℕ) (t k : ℕ) → Type 0
KeepsAt n cells w c g f t k = Keeps (g k) (f k) (w k) (before cells f k) (goes_before g k) (room_at n k (c k) (f k) (f (suc k)))
    (room_goes n k (g (suc k))) t

-- No filter is past the cell that it wants or past its source, and no FIFO is over its capacity.
pub record InPlace (n cells : ℕ) (w c f : ℕ → ℕ) : Type 0 where
  pub wanted : (k : ℕ) → k < n → f k ≤ w k
  pub sourced : (k : ℕ) → k < n → f k ≤ before cells f k
  pub fits : (k : ℕ) → suc k < n → f k ≤ f (suc k) + c k

-- ---- a clock by the filters that move

-- What it is handed: some tables whose clock it is.
pub record Going (n : ℕ) (goes bases tops ps puts gets store : List ℕ) : Type 0 where
  pub capacity : ℕ → ℕ
  pub cells : ℕ
  pub wants : List ℕ
  pub caps : List ℕ
  pub turns : Turns capacity n bases tops caps ps puts gets store
  pub each : Goes n cells (of wants) (of caps) (of goes) (of ps)

-- What it leaves.
pub record Gone (c : ℕ → ℕ) (n cells word : ℕ) (wants bases caps goes ps ps' puts' gets' store store' : List ℕ) : Type 0 where
  pub moved : Bool
  pub turned : Turned c n cells word wants bases caps ps ps' puts' gets' store store' moved
  pub on : (k : ℕ) → k < n → get_or ps' k 0 ≡ get_or ps k 0 + get_or goes k 0
