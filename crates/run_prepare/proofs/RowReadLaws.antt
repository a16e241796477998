-- What is read in an iteration, by the row that it lies in.
use Prim.Native.Nat.{ℕ, ◌+◌, ◌-◌, ◌<◌}
use mathlib.Core.List.{List}
use mathlib.Core.Path.{◌≡◌, ◌∙◌, ap₂}
use native.Mathlib.Omega.{arith}
use Rattle.model.specs.Values.{Trimmed, rows_of}
use Rattle.model.specs.Iterations.{iterations_of, reads_of}
use Rattle.geometry.specs.Parts as parts
use Rattle.rows.specs.Courses.{looked}
use Rattle.rows.specs.declared.RowCourse.{RowCourse}
use Rattle.row_courses.specs.CourseTables.{read_at, LiesIn, RowOf}
use Rattle.row_courses.proofs.TableLaws.{row_of_lies}
use Rattle.run_prepare.specs.Prepared.{number_at}
use Rattle.run_prepare.specs.RowsReady.{RowReads}

module _ {t : Trimmed} {count : ℕ} {rows : List ℕ} {course : RowCourse} {n : ℕ} {above iterations : List ℕ} (r : RowReads t count rows course n above iterations)
    (j v : ℕ) (h : j < iterations_of t) (o : RowOf iterations course.height j v) where
  pub lies_in : LiesIn iterations course.height j v
  lies_in = row_of_lies iterations course.height j v r.few_rows (omega (arith, r.none_above)) (omega (arith, r.all_above)) o

  pub row_below : v < 512
  row_below = omega (arith, lies_in.below, r.few_rows)

  -- The cells of the row's first iteration, and how far iteration j lies behind that.
  module _ (at : List ℕ) (f : parts.Filled 32 0 (read_at (rows_of count rows) above course v) (looked course) at) (behind : ℕ) (e : behind ≡ j - number_at iterations v) where
    pub adds_read : (k : ℕ) → k < n → number_at at k + behind ≡ reads_of t j k
    adds_read k l = ap₂ ◌+◌ (f.done k (omega (arith, r.looked_is))) e ∙ r.reads_are j v k lies_in l

    pub adds_near : (k : ℕ) → k < n → number_at at k + behind < 18446744073709551616
    adds_near k l = omega (arith, adds_read k l, r.near j k h l)
