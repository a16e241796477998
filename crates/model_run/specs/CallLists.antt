-- A list of run calls on one chain and one stream (document 01, "Running", last paragraph).
use Rattle.std.specs.Prelude.{ℕ, suc, ◌+◌, ◌-◌, ◌*◌, ◌≤◌, ◌<◌, Bool, true, false, cond, List, [], ◌∷◌, ◌++◌, map, ◌≡◌, length, get_or, take, drop}
use Rattle.model.specs.Lists.{tabulate, sum}
use Rattle.model.specs.Values.{Trimmed}
use Rattle.model.specs.Answers.{answer_counts}
use Rattle.model_run.specs.Clock.{first, fresh}
use Rattle.model_run.specs.Running.{layout, counters_of, width_of, short_store, Run, run_trimmed, events_trimmed}
use Rattle.model.specs.declared.State.{State}

-- What a call lends: so many cells of the stream, an output, a clock allowance, and so many words of the store's front.
pub record Lending : Type 0 where
  pub cells : ℕ
  pub output : List ℕ
  pub allowance : ℕ
  pub front : ℕ

-- What one call hands to the next.
pub record Between : Type 0 where
  pub state : State
  pub store : List ℕ

-- `stream`: the word of the cell at each position.
module _ (t : Trimmed) (stream : ℕ → ℕ) where
  -- "the first lent cell is the one at filter 0's input counter"
  unfoldable pub lent_cells : Lending → Between → List ℕ
  lent_cells l b = tabulate l.cells (λ i. stream (first (counters_of t.count b.state).passed + i))

  -- One call of the list.
  unfoldable pub call_run : Lending → Between → Run
  call_run l b = run_trimmed t b.state (take l.front b.store) (lent_cells l b) l.output l.allowance

  unfoldable pub call_events : Lending → Between → List Bool
  call_events l b = events_trimmed t b.state (take l.front b.store) (lent_cells l b) l.output l.allowance

  -- "each later one the state that the last returned and the store as it was left"
  unfoldable pub after : Lending → Between → Between
  after l b = let r = call_run l b in record { state = r.state; store = r.store ++ drop l.front b.store }

  -- What the list hands on at its end.
  unfoldable pub after_all : List Lending → Between → Between
  after_all [] b = b
  after_all (l ∷ ls) b = after_all ls (after l b)

  -- The runs of the list's calls, refused ones among them.
  unfoldable pub runs : List Lending → Between → List Run
  runs [] b = []
  runs (l ∷ ls) b = call_run l b ∷ runs ls (after l b)

  -- An event for each clock of the list, "numbered from 0 through all its calls": whether it fires.
  unfoldable pub all_events : List Lending → Between → List Bool
  all_events [] b = []
  all_events (l ∷ ls) b = call_events l b ++ all_events ls (after l b)

  -- The words that the list's calls wrote, in order: of each call, those of its firings.
  unfoldable pub all_words : List Lending → Between → List ℕ
  all_words [] b = []
  all_words (l ∷ ls) b = take ((answer_counts (call_run l b).answer).firings * width_of t) (call_run l b).output
      ++ all_words ls (after l b)

-- "Clocks and firings made are sums over the list", to which a refused call adds 0.
unfoldable pub clocks_made : List Run → ℕ
clocks_made rs = sum (map (λ r. (answer_counts r.answer).clocks) rs)

unfoldable pub firings_made : List Run → ℕ
firings_made rs = sum (map (λ r. (answer_counts r.answer).firings) rs)

-- Cells taken, likewise.
unfoldable pub cells_taken : List Run → ℕ
cells_taken rs = sum (map (λ r. (answer_counts r.answer).cells) rs)

-- How many of some clocks fire.
unfoldable pub firings_among : List Bool → ℕ
firings_among [] = 0
firings_among (e ∷ es) = let later = firings_among es in cond e (suc later) later

-- Iteration j fires in clock t: that clock is made and fires, and j clocks before it fire.
pub record FiresIn (es : List Bool) (t j : ℕ) : Type 0 where
  pub made : t < length es
  pub fires : get_or es t false ≡ true
  pub earlier : firings_among (take t es) ≡ j

-- "The first gets a fresh state and a store of any content"; counters past n may be anything.
pub record Fresh (t : Trimmed) (b : Between) : Type 0 where
  pub counters : counters_of t.count b.state ≡ fresh (layout t)

-- "A call is lent enough if it has all cells not yet taken, places for all firings not yet made, an allowance of at least n
-- times the number of cells and a store that 10 does not refuse."
pub record LentEnough (t : Trimmed) (l : Lending) (b : Between) : Type 0 where
  pub cells : (layout t).cells ≤ first (counters_of t.count b.state).passed + l.cells
  pub places : ((layout t).iterations - (counters_of t.count b.state).fired) * width_of t ≤ length l.output
  pub clocks : t.count * (layout t).cells ≤ l.allowance
  pub store : short_store t (take l.front b.store) ≡ false
