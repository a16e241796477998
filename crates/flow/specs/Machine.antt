-- What the laws speak of: clocks made one after another, and what is asked of a layout and of counters. Definitions only.
use Rattle.std.specs.Prelude.{ℕ, zero, suc, ◌+◌, ◌≤◌, ◌<◌, Bool, true, cond, ◌&&◌, List, [], ◌∷◌, ◌≡◌, ltb}
use Rattle.model_run.specs.Clock.{Layout, Counters, fires, next, moves, fresh}
pub use Rattle.model_run.specs.Clock.{first}

module _ (L : Layout) where
  open L use {wants, capacity, filters, cells, iterations}

  -- There is a clock to make: firings are left and something would move.
  unfoldable pub live : Counters → Bool
  live s = ltb s.fired iterations && moves L s

  -- The counters after a clock, if there is one to make.
  unfoldable pub clock : Counters → Counters
  clock s = cond (live s) (next L s) s

  -- The counters after t clocks, or after fewer where there are no more to make.
  unfoldable pub run : ℕ → Counters → Counters
  run zero s = s
  run (suc t) s = run t (clock s)

  -- Clocks made where t are allowed.
  unfoldable pub made : ℕ → Counters → ℕ
  made zero s = 0
  made (suc t) s = cond (live s) (suc (made t (clock s))) 0

  -- t clocks, each of them made, lead from s to s'.
  pub record Ran (s : Counters) (t : ℕ) (s' : Counters) : Type 0 where
    pub state : s' ≡ run t s
    pub each : made t s ≡ t

  -- Clock u, counted from 0 and from fresh counters, fires iteration j.
  pub record Firing (u j : ℕ) : Type 0 where
    pub now : Counters
    pub ran : Ran (fresh L) u now
    pub live : live now ≡ true
    pub fires : fires L now ≡ true
    pub fired : now.fired ≡ j

  -- There is a filter, and the positions that a reference reads rise from iteration to iteration and stay within the stream.
  pub record Lawful : Type 0 where
    pub some : 0 < filters
    pub rises : (j k : ℕ) → j < iterations → k < filters → wants j k < wants (suc j) k
    pub within : (j k : ℕ) → j ≤ iterations → k < filters → wants j k ≤ cells

  -- In iteration f reference k + 1 reads before reference k, and FIFO k holds the distance.
  pub record Spans (f k : ℕ) : Type 0 where
    pub falls : wants f (suc k) < wants f k
    pub fits : wants f k ≤ wants f (suc k) + capacity k

  -- The condition on iteration f.
  abbrev pub Flows : ℕ → Type 0
  Flows f = (k : ℕ) → suc k < filters → Spans f k

  -- B is the first iteration whose condition fails, or `iterations` where none does.
  pub record FlowsUpTo (B : ℕ) : Type 0 where
    pub most : B ≤ iterations
    pub before : (f : ℕ) → f < B → Flows f
    pub ends : B < iterations → Flows B → ⊥

  -- Each capacity is the reuse distance, which is the same in all iterations.
  pub record Planned : Type 0 where
    pub room : (k : ℕ) → suc k < filters → 1 ≤ capacity k
    pub exact : (j k : ℕ) → j < iterations → suc k < filters → wants j k ≡ wants j (suc k) + capacity k

  -- The least that filter k has passed once f firings are made: it is past its last fired cell.
  abbrev pub past : (f k : ℕ) → ℕ
  past zero k = 0
  past (suc j) k = suc (wants j k)

  -- FIFO k is within its capacity, where filter k stands at p and those behind it at the list.
  abbrev pub Fits : (k p : ℕ) → List ℕ → Type 0
  Fits k p [] = Unit {0}
  Fits k p (q ∷ qs) = p ≤ q + capacity k

  -- Filter k may stand at p after f firings, where its source has let `source` cells through and the filters behind it stand
  -- at the list.
  pub record Placed (f k source p : ℕ) (ps : List ℕ) : Type 0 where
    pub filter : k < filters
    pub fired : past f k ≤ p
    pub wanted : p ≤ wants f k
    pub sourced : p ≤ source
    pub fits : Fits k p ps

  -- The filters from k on, and no others, may stand at the list.
  abbrev pub Holds : (f k source : ℕ) → List ℕ → Type 0
  Holds f k source [] = k ≡ filters
  Holds f k source (p ∷ ps) = Placed f k source p ps × Holds f (suc k) p ps

  -- What every clock keeps: all that document 01's number 11 asks of a state.
  pub record Invariant (s : Counters) : Type 0 where
    pub most : s.fired ≤ iterations
    pub all : Holds s.fired 0 cells s.passed

  -- Every filter from k on is presented a wanted cell.
  abbrev pub Ready : (f k source : ℕ) → List ℕ → Type 0
  Ready f k source [] = Unit {0}
  Ready f k source (p ∷ ps) = (p < source) × (p ≡ wants f k) × Ready f (suc k) p ps

  -- The clock would fire.
  abbrev pub Fires : Counters → Type 0
  Fires s = Ready s.fired 0 cells s.passed
