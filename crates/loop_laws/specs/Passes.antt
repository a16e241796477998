-- A clock in which every filter moves: the words pass through the FIFOs from the first to the last. FIFO k's places go from
-- `base k` on, `cap k` of them.
use Rattle.std.specs.Prelude.{ℕ, zero, suc, ◌+◌, ◌%◌, ◌≤◌, ◌<◌, Bool, cond, List, [], ◌∷◌, map, ◌≡◌, eqb, length, get_or, set}
use Rattle.std.proofs.Math.Seq.{slice}
use Rattle.std.proofs.lemmas.List.Edits.{sets}
use Rattle.model_run.specs.Store.{first_place}

-- A table as a function.
abbrev pub of : List ℕ → ℕ → ℕ
of l k = get_or l k 0

-- Each FIFO holds a cell, no more than it has places for, and as many as its two references are apart: in some iteration
-- reference k reads w k.
module _ (w cap : ℕ → ℕ) where
  abbrev pub Aligned : (k : ℕ) → List ℕ → Type 0
  Aligned k [] = Unit {0}
  Aligned k (p ∷ []) = Unit {0}
  Aligned k (p ∷ q ∷ qs) = (q < p) × (p ≤ q + cap k) × (p + w (suc k) ≡ q + w k) × Aligned (suc k) (q ∷ qs)

-- The tables of n filters have the places of the definition.
pub record Places (capacity : ℕ → ℕ) (n : ℕ) (base cap : ℕ → ℕ) : Type 0 where
  pub bases_are : (k : ℕ) → suc k < n → base k ≡ first_place capacity k
  pub caps_are : (k : ℕ) → suc k < n → cap k ≡ capacity k

-- All counters t cells on.
unfoldable pub ahead : ℕ → List ℕ → List ℕ
ahead zero ps = ps
ahead (suc t) ps = map suc (ahead t ps)

-- The place after u in a ring from base up to below top.
unfoldable pub step : (base top u : ℕ) → ℕ
step base top u = cond (eqb (suc u) top) base (suc u)

-- The word x goes to the first of the places us, what stood at the first of gs to the second, and so on.
unfoldable pub flow : (x : ℕ) (gs us store : List ℕ) → List ℕ
flow x [] us store = store
flow x (g ∷ gs) [] store = store
flow x (g ∷ gs) (u ∷ us) store = flow (get_or store g 0) gs us (set store u x)

-- The words that pass the filters meanwhile.
unfoldable pub flowed : (x : ℕ) (gs us store : List ℕ) → List ℕ
flowed x [] us store = x ∷ []
flowed x (g ∷ gs) [] store = x ∷ []
flowed x (g ∷ gs) (u ∷ us) store = x ∷ flowed (get_or store g 0) gs us (set store u x)

module _ (base cap : ℕ → ℕ) where
  abbrev pub place_of : (k p : ℕ) → ℕ
  place_of k p = base k + p % cap k

  -- Where the heads of the FIFOs from k on are,
  unfoldable pub gets : (k : ℕ) → List ℕ → List ℕ
  gets k [] = []
  gets k (p ∷ []) = []
  gets k (p ∷ q ∷ qs) = place_of k q ∷ gets (suc k) (q ∷ qs)

  -- and where the next cells go.
  unfoldable pub puts : (k : ℕ) → List ℕ → List ℕ
  puts k [] = []
  puts k (p ∷ []) = []
  puts k (p ∷ q ∷ qs) = place_of k p ∷ puts (suc k) (q ∷ qs)

  -- Every place a step on.
  unfoldable pub steps : (k : ℕ) → List ℕ → List ℕ
  steps k [] = []
  steps k (u ∷ us) = step (base k) (base k + cap k) u ∷ steps (suc k) us

-- The first m places a step on.
unfoldable pub stepped : (bases tops : List ℕ) (m : ℕ) → List ℕ → List ℕ
stepped bases tops zero us = us
stepped bases tops (suc k) us = set (stepped bases tops k us) k (step (get_or bases k 0) (get_or tops k 0) (get_or us k 0))

-- All that a pass is lent.
pub record Lent : Type 0 where
  pub puts : List ℕ
  pub gets : List ℕ
  pub store : List ℕ
  pub words : List ℕ

abbrev pub lent_of : (puts gets store words : List ℕ) → Lent
lent_of puts gets store words = record { puts = puts; gets = gets; store = store; words = words }

-- The words that pass the filters, where the places are those of m FIFOs.
abbrev pub passing : (m word : ℕ) (puts gets store : List ℕ) → List ℕ
passing m word puts gets store = flowed word (slice 0 m gets) (slice 0 m puts) store

-- The word goes in at the first FIFO; each filter's word is written to the row.
abbrev pub pass_of : (m : ℕ) (bases tops : List ℕ) (word : ℕ) → Lent → Lent
pass_of m bases tops word l = record {
  puts = stepped bases tops m l.puts;
  gets = stepped bases tops m l.gets;
  store = flow word (slice 0 m l.gets) (slice 0 m l.puts) l.store;
  words = sets l.words 0 (passing m word l.puts l.gets l.store);
}

-- Where the heads of the FIFOs are: where the next cells go, if every FIFO is full.
abbrev pub heads : (full : Bool) (puts gets : List ℕ) → List ℕ
heads full puts gets = cond full puts gets

-- The counters of n filters say that every FIFO is full.
abbrev pub FullFifos : (n : ℕ) (caps passed : List ℕ) → Type 0
FullFifos n caps passed = (k : ℕ) → suc k < n → get_or passed k 0 ≡ get_or passed (suc k) 0 + get_or caps k 0

-- The places are there, and lie in the store.
pub record InStore (m : ℕ) (puts gets store : List ℕ) : Type 0 where
  pub puts_there : m ≤ length puts
  pub gets_there : m ≤ length gets
  pub in_puts : (i : ℕ) → i < m → get_or puts i 0 < length store
  pub in_gets : (i : ℕ) → i < m → get_or gets i 0 < length store
