-- A box in its arrays, dimension by dimension: what functions that look at it answer.
use Rattle.std.specs.Prelude.{ℕ, ◌+◌, ◌-◌, ◌≤◌, ◌<◌, List, ℤ, pos, get_or}
use Rattle.geometry.specs.Parts.{number_at, Filled}
use Rattle.windows.specs.Lows.{index_in}
use Rattle.shape.specs.declared.boxed.Placed.{Placed}

-- An index of dimension d, counted from the first iteration.
abbrev pub index_at : (xs lows : List ℤ) (extents : List ℕ) → (d : ℕ) → ℕ
index_at xs lows extents d = index_in (get_or xs d (pos 0)) (get_or lows d (pos 0)) (number_at extents d)

module _ (lowest highest lows : List ℤ) (extents : List ℕ) where
  abbrev pub first_at : ℕ → ℕ
  first_at d = index_at lowest lows extents d

  abbrev pub last_at : ℕ → ℕ
  last_at d = index_at highest lows extents d

  -- In dimension d the box lies among the iterations.
  pub record LiesIn (d : ℕ) : Type 0 where
    pub first : first_at d < number_at extents d
    pub last : last_at d < number_at extents d
    pub rises : first_at d ≤ last_at d

  -- In some dimension it does not.
  abbrev pub Outside : (dims : ℕ) → Type 0
  Outside dims = (d : ℕ) × (d < dims) × (LiesIn d → ⊥)

  -- It lies among the iterations in all dimensions; in each of them where it begins and how many indices it has.
  pub record PlacedIn (dims : ℕ) (p : Placed) : Type 0 where
    pub inside : (d : ℕ) → d < dims → LiesIn d
    pub firsts : Filled 4 0 first_at dims p.firsts
    pub widths : Filled 4 0 (λ d. last_at d - first_at d + 1) dims p.widths
