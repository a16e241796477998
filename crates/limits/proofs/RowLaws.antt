-- 16, row by row.
use Prim.Native.Nat.{ℕ, ◌+◌, ◌≤◌, ◌<◌}
use mathlib.Core.Bool.{Bool, true, false}
use mathlib.Core.List.{List, ◌∷◌}
use mathlib.Core.Path.{◌≡◌, sym, ap₂, ◌∙◌}
use native.Mathlib.Numerals.{add-one}
use lib.ListN.{drop, drop_of_length-le}
use lib.Seq.{drop-cons}
use Rattle.model.specs.Lists.{any}
use Rattle.model.specs.Grounds.{Row, no_row}
use Rattle.model.specs.Values.{rows_of}
use Rattle.model.specs.Judging.{bad_row, bad_row_count, bad_rows}
use Rattle.grid_laws.proofs.ChainLaws.{rows_count}
use Rattle.grid_laws.proofs.ListLaws.{get_d_tabulate}
use Rattle.limits.specs.Lent.{row_of}

module _ (count : ℕ) (rows : List ℕ) where
  -- All of them.
  pub count_bad : bad_row_count count ≡ true → true ≡ bad_rows (rows_of count rows)
  unfolding bad_rows
  count_bad e = rw (rows_count count rows, e)

  pub by_rows_lem : bad_row_count count ≡ false → any bad_row (rows_of count rows) ≡ bad_rows (rows_of count rows)
  unfolding bad_rows
  by_rows_lem e = rw (rows_count count rows, e)

  -- From row i on.
  abbrev pub rows_from : ℕ → List Row
  rows_from i = drop i (rows_of count rows)

  pub none_left : (i : ℕ) → count ≤ i → false ≡ any bad_row (rows_from i)
  unfolding any
  none_left i h = rw (drop_of_length-le (rows_of count rows) {i = i} (rw rows_count h))

  module _ (i : ℕ) (more : i < count) {bad : Bool} (is : bad ≡ bad_row (row_of rows i)) where
    here : rows_from i ≡ row_of rows i ∷ rows_from (i + 1)
    unfolding rows_of
    here =
        drop-cons (rows_of count rows) i no_row (rw rows_count more)
        ∙ ap₂ (λ (r : Row) (n : ℕ). r ∷ rows_from n) (get_d_tabulate count (row_of rows) i no_row more) (sym (add-one i))

    pub bad_here : bad ≡ true → true ≡ any bad_row (rows_from i)
    unfolding any
    bad_here e = rw (here, ← is, e)

    pub onward : bad ≡ false → any bad_row (rows_from (i + 1)) ≡ any bad_row (rows_from i)
    unfolding any
    onward e = rw (here, ← is, e)
