-- When order and capacities of a chain are right, when they are the planned ones, and which iteration is the first that needs
-- more.
use Rattle.std.specs.Prelude.{ℕ, suc, ◌≤◌, ◌<◌, true, [], ◌≡◌, get_or}
use Rattle.model.specs.Vectors.{before}
use Rattle.model.specs.Values.{Trimmed}
use Rattle.model.specs.Iterations.{iterations_of, distance_in, distance_of}

module _ (t : Trimmed) where
  -- "the offsets fall lexicographically": that of filter k + 1 comes before that of filter k.
  abbrev pub Falls : Type 0
  Falls = (k : ℕ) → suc k < t.count → before (get_or t.offsets (suc k) []) (get_or t.offsets k []) ≡ true

  -- The offset of filter k + 1 comes lexicographically before that of filter k, and FIFO k, between them, is at least their
  -- reuse distance, the largest over the iterations.
  pub record RightPair (k : ℕ) : Type 0 where
    pub falls : before (get_or t.offsets (suc k) []) (get_or t.offsets k []) ≡ true
    pub holds : distance_of t k ≤ get_or t.capacities k 0

  -- "the offsets fall lexicographically and each FIFO is at least the reuse distance of its two references"
  abbrev pub Right : Type 0
  Right = (k : ℕ) → suc k < t.count → RightPair k

  -- Falling order, and the capacity is the reuse distance.
  pub record PlannedPair (k : ℕ) : Type 0 where
    pub falls : before (get_or t.offsets (suc k) []) (get_or t.offsets k []) ≡ true
    pub exact : get_or t.capacities k 0 ≡ distance_of t k

  -- A planned chain.
  abbrev pub Planned : Type 0
  Planned = (k : ℕ) → suc k < t.count → PlannedPair k

  -- Iteration j needs no more than the chain has: in it each FIFO is at least the distance of its two references.
  abbrev pub HeldIn : ℕ → Type 0
  HeldIn j = (k : ℕ) → suc k < t.count → distance_in t j k ≤ get_or t.capacities k 0

  -- B is "the first that needs more", or the number of iterations where none does.
  pub record FirstBlocked (B : ℕ) : Type 0 where
    pub most : B ≤ iterations_of t
    pub before : (j : ℕ) → j < B → HeldIn j
    pub needs : B < iterations_of t → HeldIn B → ⊥
