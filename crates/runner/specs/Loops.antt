-- Counters that moved on together.
use Rattle.std.specs.Prelude.{ℕ, ◌+◌, ◌≤◌, ◌<◌, List, ◌≡◌, length, get_or}

-- The first n counters m on, the others as they were.
pub record Advanced (n m : ℕ) (ps ps' : List ℕ) : Type 0 where
  pub there : length ps' ≡ 32
  pub on : (k : ℕ) → k < n → get_or ps' k 0 ≡ get_or ps k 0 + m
  pub rest : (k : ℕ) → n ≤ k → get_or ps' k 0 ≡ get_or ps k 0
