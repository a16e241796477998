-- Laws of rows as they are lent.
use Prim.Native.Nat.{ℕ, ◌+◌, ◌*◌, ◌≤◌, ◌<◌}
use mathlib.Core.List.{List}
use mathlib.Core.Path.{◌≡◌, sym, ◌∙◌, ap}
use lib.ListN.{get_or-eq_default}
use Rattle.model.specs.Grounds.{Row, row, no_row, end}
use Rattle.model.specs.Values.{rows_of}
use Rattle.grid_laws.proofs.ChainLaws.{rows_count}
use Rattle.grid_laws.proofs.ListLaws.{get_d_tabulate}
use Rattle.geometry.specs.Parts.{number_at}
use Rattle.limits.specs.Lent.{row_of}

module _ (count : ℕ) (rows : List ℕ) where
  -- Row i; past the last one a row without cells.
  pub row_lent : (i : ℕ) → i < count → row (rows_of count rows) i ≡ row_of rows i
  unfolding rows_of
  row_lent i h = get_d_tabulate count (row_of rows) i no_row h

  pub row_past : (i : ℕ) → count ≤ i → row (rows_of count rows) i ≡ no_row
  row_past i h = get_or-eq_default (rows_of count rows) no_row (rw rows_count h)

  pub start_past : (i : ℕ) → count ≤ i → (row (rows_of count rows) i).start ≡ 0
  start_past i h = ap (λ (r : Row). r.start) (row_past i h)

  pub end_past : (i : ℕ) → count ≤ i → end (row (rows_of count rows) i) ≡ 0
  end_past i h = ap end (row_past i h)

  pub start_lent : (i j : ℕ) → i < count → i ≡ j → number_at rows (2 * i) ≡ (row (rows_of count rows) j).start
  start_lent i j h e = sym (ap (λ (r : Row). r.start) (ap (row (rows_of count rows)) (sym e) ∙ row_lent i h))

  pub end_lent : (i j : ℕ) → i < count → i ≡ j → number_at rows (2 * i) + number_at rows (2 * i + 1) ≡ end (row (rows_of count rows) j)
  end_lent i j h e = sym (ap end (ap (row (rows_of count rows)) (sym e) ∙ row_lent i h))
