-- Laws of tables of what lies above each row.
use Prim.Native.Nat.{ℕ, zero, suc, ◌+◌, ◌-◌, ◌≤◌, ◌<◌, min, max}
use mathlib.Core.Bool.{Bool, true, false}
use mathlib.Core.List.{List, [], ◌∷◌}
use mathlib.Core.Path.{◌≡◌, refl, sym, ◌∙◌, ap, ap₂}
use native.Mathlib.Decide.{dec_lt}
use native.Mathlib.Numerals.{add-one}
use native.Mathlib.Omega.{arith}
use lib.ListN.{set, replicate}
use borrow.Author.Tests.{lt-ltb, le-ltb}
use Rattle.model.specs.Grounds.{Row, row, cells_above}
use Rattle.model.specs.Values.{rows_of}
use Rattle.model.specs.Judging.{bad_rows}
use Rattle.geometry.specs.Parts.{number_at, Filled}
use Rattle.geometry.proofs.FillLaws.{filled_none, filled_more}
use Rattle.rows.specs.Courses.{length_in, looked, column_in, row_length}
use Rattle.rows.specs.declared.RowCourse.{RowCourse}
use Rattle.grid_laws.proofs.ChainLaws.{rows_count}
use Rattle.rows.proofs.CommonLaws.{few_rows, length_boxed, length_whole}
use Rattle.row_courses.specs.CourseTables.{above_count, lengths_above, entry_of, read_at, LiesIn, RowOf}

-- One row further.
row_next : (rs : List Row) (i : ℕ) → cells_above rs i + (row rs i).length ≡ cells_above rs (suc i)
unfolding cells_above
row_next [] zero = refl
row_next [] (suc i) = refl
row_next (r ∷ rs) zero = omega arith
row_next (r ∷ rs) (suc i) = omega (arith, row_next rs i)

pub above_next : (rs : List Row) (i : ℕ) → cells_above rs i + (row rs i).length ≡ cells_above rs (i + 1)
above_next rs i = row_next rs i ∙ ap (cells_above rs) (sym (add-one i))

pub lengths_next : (f : ℕ → ℕ) (v : ℕ) → lengths_above f v + f v ≡ lengths_above f (v + 1)
unfolding lengths_above
lengths_next f v = rw (add-one v)

-- How many entries the table of the cells above has.
module _ (count : ℕ) (rows : List ℕ) where
  pub above_bad : bad_rows (rows_of count rows) ≡ true → 0 ≡ above_count count rows
  unfolding above_count
  above_bad e = rw e

  pub above_good : bad_rows (rows_of count rows) ≡ false → count + 1 ≡ above_count count rows
  unfolding above_count
  above_good e = rw e

  pub few_count : bad_rows (rows_of count rows) ≡ false → count ≤ 512
  few_count e = omega (arith, few_rows (rows_of count rows) e, rows_count count rows)

-- No row of a course has more than 1,024 iterations.
pub row_most : (rs : List Row) (c : RowCourse) (v : ℕ) → row_length rs c v ≤ 1024
unfolding length_in
row_most rs c v = go c.boxed refl
  where
    go : (t : Bool) → c.boxed ≡ t → row_length rs c v ≤ 1024
    go true e = omega (arith, length_boxed rs c v e)
    go false e = omega (arith, length_whole rs c v e)

-- A table that begins with 0, and one with an entry more.
module _ (size : ℕ) (f : ℕ → ℕ) where
  pub filled_first : f 0 ≡ 0 → Filled size 0 f 1 (replicate size 0)
  filled_first e =
      let r = filled_none size 0 f in
      record {
        long = r.long;
        done = λ i h. let z : i ≡ 0 = omega arith in r.left i (omega arith) ∙ sym (ap f z ∙ e);
        left = λ i h. r.left i (omega arith);
      }

  pub filled_at : (n m : ℕ) (xs : List ℕ) (x : ℕ) → m ≡ n → n < size → x ≡ f n → Filled size 0 f n xs → Filled size 0 f (n + 1) (set xs m x)
  filled_at n m xs x e h d r = rw e (filled_more size 0 f n xs x h d r)

-- An entry of a table.
module _ (above : List ℕ) (i : ℕ) where
  pub entry_there : i < 513 → number_at above i ≡ entry_of above i
  unfolding entry_of
  entry_there h = rw (lt-ltb i 513 h)

  pub entry_past : 513 ≤ i → 0 ≡ entry_of above i
  unfolding entry_of
  entry_past h = rw (le-ltb i 513 h)

-- What is read in a row, by its number and its first column.
abbrev pub read_by : List Row → (above down on : List ℕ) (u column k : ℕ) → ℕ
read_by rs above down on u column k = entry_of above (number_at down k + u) + ((number_at on k + column) - (row rs (number_at down k + u)).start)

pub reads_are : (rs : List Row) (above : List ℕ) (c : RowCourse) (v u column n : ℕ) (xs : List ℕ) → u ≡ c.top + v → column ≡ min (column_in rs c v) 8192 → n ≡ looked c
    → Filled 32 0 (read_by rs above c.down c.on u column) n xs → Filled 32 0 (read_at rs above c v) (looked c) xs
unfolding read_at
reads_are rs above c v u column n xs e f g r = record {
  long = r.long;
  done = λ k h. r.done k (omega arith) ∙ ap₂ (λ (u column : ℕ). read_by rs above c.down c.on u column k) e f;
  left = λ k h. r.left k (omega arith);
}

-- Looking for the row of iteration j between two rows.
pub record Search (above : List ℕ) (height j from to : ℕ) : Type 0 where
  pub rises : from < max to 1
  pub most : to ≤ min height 512
  pub some : min (min height 512) 1 ≤ to
  pub low : 0 < from → number_at above from ≤ j
  pub high : to < min height 512 → j < number_at above to

module _ (above : List ℕ) (height j : ℕ) where
  -- Where iteration j lies in a row, that is the answer.
  pub row_of_lies : (v : ℕ) → height ≤ 512 → number_at above 0 ≤ j → j < number_at above height → RowOf above height j v → LiesIn above height j v
  row_of_lies v few low high r = go (dec_lt 0 height)
    where
      from : Dec (0 < v) → number_at above v ≤ j
      from (yes h) = r.from h
      from (no h) = let z : v ≡ 0 = omega arith in rw z low

      to : v < height → Dec (v + 1 < height) → j < number_at above (v + 1)
      to b (yes h) = r.to (omega arith)
      to b (no h) = let z : v + 1 ≡ height = omega arith in rw z high

      go : Dec (0 < height) → LiesIn above height j v
      go (yes some) = let b : v < height = omega (arith, r.below) in record { below = b; from = from (dec_lt 0 v); to = to b (dec_lt (v + 1) height) }
      go (no none) = let z : height ≡ 0 = omega arith in absurd (omega (arith, low, high, ap (number_at above) z))
