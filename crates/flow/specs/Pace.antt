-- The clock of an iteration: it hangs on the table of wanted positions alone, not on capacities or on what is lent.
use Rattle.std.specs.Prelude.{ℕ, zero, suc, ◌+◌, ◌-◌}
use Rattle.model.specs.Lists.{tabulate, greatest}
use Rattle.model_run.specs.Clock.{Layout}

module _ (L : Layout) where
  open L use {wants, filters}

  -- That of the first is the highest position that it reads; each later one comes as many clocks behind the one before as
  -- the reference that has furthest to go.
  unfoldable pub clock_at : ℕ → ℕ
  clock_at zero = greatest (tabulate filters (λ k. wants zero k))
  clock_at (suc f) = clock_at f + greatest (tabulate filters (λ k. wants (suc f) k - wants f k))

  -- The first clock before which iteration f is the next.
  abbrev pub since : ℕ → ℕ
  since zero = 0
  since (suc f) = suc (clock_at f)
