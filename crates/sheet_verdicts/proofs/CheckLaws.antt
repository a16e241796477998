-- The rows of an `09` line whose row count was looked at before.
use Prim.Native.Nat.{ℕ}
use mathlib.Core.Bool.{Bool, true, false, ◌&&◌, ◌||◌}
use mathlib.Core.List.{List}
use mathlib.Core.Path.{◌≡◌, refl}
use lib.Dec.{eqb}
use Rattle.model.specs.Lists.{any}
use Rattle.model.specs.Values.{rows_of}
use Rattle.model.specs.Judging.{bad_row, bad_row_count, bad_rows}
use Rattle.grid_laws.proofs.ChainLaws.{rows_count}

pub rows_alone : (kind n : ℕ) (rows : List ℕ) → (eqb kind 9 && bad_row_count n) ≡ false
    → (eqb kind 9 && bad_rows (rows_of n rows)) ≡ (eqb kind 9 && any bad_row (rows_of n rows))
unfolding bad_rows
rows_alone kind n rows = rw (rows_count n rows) (go (eqb kind 9) (bad_row_count n) (any bad_row (rows_of n rows)))
  where
    go : (k b a : Bool) → (k && b) ≡ false → (k && (b || a)) ≡ (k && a)
    go false b a e = refl
    go true true a e = cc
    go true false a e = refl
