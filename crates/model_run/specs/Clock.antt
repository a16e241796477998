-- One clock, as far as the counters go (document 01, "One clock"). No cell's content: only how far each splitter is.
use Rattle.std.specs.Prelude.{ℕ, suc, ◌+◌, Bool, true, not, cond, ◌&&◌, List, [], ◌∷◌, map, ltb, eqb, replicate}
use Rattle.model.specs.Lists.{sum}

-- A chain as numbers: in iteration j reference k reads position `wants j k`; FIFO k, between filters k and k + 1, has
-- `capacity k` places. Past the last iteration, at j = iterations, `wants j k` stands for `cells`.
pub record Layout : Type 0 where
  pub wants : (j k : ℕ) → ℕ
  pub capacity : ℕ → ℕ
  pub filters : ℕ
  pub cells : ℕ
  pub iterations : ℕ

-- The counters: firings made, and for each filter, filter 0 first, the cells that passed its splitter.
pub record Counters : Type 0 where
  pub fired : ℕ
  pub passed : List ℕ

-- Filter 0's input counter.
abbrev pub first : List ℕ → ℕ
first [] = 0
first (p ∷ ps) = p

-- A splitter's turn in a clock without firing. It has passed p cells, so it is presented cell p where p is below `source`,
-- the cells that its source has let through. "one moves if it is presented an unwanted cell and the FIFO behind it has a free
-- place": where p is below `limit`.
unfoldable pub turn : (source wanted limit p : ℕ) → ℕ
turn source wanted limit p = cond (ltb p source && (not (eqb p wanted) && ltb p limit)) (suc p) p

-- The first cell for which FIFO k has no place, where the filters behind filter k stand at the list. "the last needs no place"
unfoldable pub limit : (capacity : ℕ → ℕ) (k p : ℕ) → List ℕ → ℕ
limit capacity k p [] = suc p
limit capacity k p (q ∷ qs) = q + capacity k

-- "Otherwise splitters are looked at from last to first": the turns of filter k, which stands at the list's head, and of
-- those behind it, which go first, so that "a place freed earlier in this clock" counts. `source`: what filter k's source has
-- let through at the start of the clock.
unfoldable pub turns : (wanted capacity : ℕ → ℕ) (k source : ℕ) → List ℕ → List ℕ
turns wanted capacity k source [] = []
turns wanted capacity k source (p ∷ ps) =
    let behind = turns wanted capacity (suc k) p ps in
    turn source (wanted k) (limit capacity k p behind) p ∷ behind

-- "If all n filters are presented wanted cells, the clock is a firing": the filters from k on.
unfoldable pub ready : (wanted : ℕ → ℕ) (k source : ℕ) → List ℕ → Bool
ready wanted k source [] = true
ready wanted k source (p ∷ ps) = ltb p source && (eqb p (wanted k) && ready wanted (suc k) p ps)

module _ (L : Layout) where
  -- The clock would fire.
  unfoldable pub fires : Counters → Bool
  fires s = ready (L.wants s.fired) 0 L.cells s.passed

  -- "all n move, in one go", or else the splitters have their turns.
  unfoldable pub next : Counters → Counters
  next s =
      cond (fires s)
      (record { fired = suc s.fired; passed = map suc s.passed })
      (record { fired = s.fired; passed = turns (L.wants s.fired) L.capacity 0 L.cells s.passed })

  -- Something would move. "A clock in which nothing moves is no clock"
  unfoldable pub moves : Counters → Bool
  moves s = ltb (sum s.passed) (sum (next s).passed)

  -- "whose counters are all 0 when fresh"
  unfoldable pub fresh : Counters
  fresh = record { fired = 0; passed = replicate L.filters 0 }
