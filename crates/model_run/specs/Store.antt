-- The words behind the counters: what the filters are presented, and what a clock leaves in the store (document 01, "One
-- clock" and "Running").
use Rattle.std.specs.Prelude.{ℕ, suc, ◌+◌, ◌%◌, cond, List, [], ◌∷◌, ltb, get_or, set}
use Rattle.model.specs.Lists.{sum, tabulate}

module _ (capacity : ℕ → ℕ) where
  -- "FIFO 0's places come first in the store, then FIFO 1's and so on"
  unfoldable pub first_place : ℕ → ℕ
  first_place k = sum (tabulate k capacity)

  -- "a cell of position p goes to the place of its FIFO numbered p remainder the capacity"
  unfoldable pub place_in : (k p : ℕ) → ℕ
  place_in k p = first_place k + p % capacity k

  -- The words that the filters from k on are presented, where they stand at the list: filter k the word x, each later one the
  -- head of the FIFO before it.
  unfoldable pub presented : (k x : ℕ) (store passed : List ℕ) → List ℕ
  presented k x store [] = []
  presented k x store (p ∷ []) = x ∷ []
  presented k x store (p ∷ q ∷ qs) = x ∷ presented (suc k) (get_or store (place_in k q) 0) store (q ∷ qs)

  -- The store after a clock that takes the counters from `passed` to `passed'`: each filter but the last that moved has put
  -- the word that it was presented into the FIFO behind it. All words presented are those of `old`, the store at the start of
  -- the clock.
  unfoldable pub stored : (k x : ℕ) (old passed passed' store : List ℕ) → List ℕ
  stored k x old [] passed' store = store
  stored k x old (p ∷ []) passed' store = store
  stored k x old (p ∷ q ∷ qs) [] store = store
  stored k x old (p ∷ q ∷ qs) (p' ∷ ps') store =
      stored (suc k) (get_or old (place_in k q) 0) old (q ∷ qs) ps' (cond (ltb p p') (set store (place_in k p) x) store)
