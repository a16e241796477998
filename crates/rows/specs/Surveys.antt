-- What a survey of a window on rows answers, on any value.
use Rattle.std.specs.Prelude.{ℕ, false, List, ◌≡◌, Result, Ok, Err}
use Rattle.model.specs.Answers.{by_verdict}
use Rattle.model.specs.Values.{rows_of, offsets_of, part_of, on_rows}
use Rattle.model.specs.Iterations.{cells_of, iterations_of}
use Rattle.model.specs.Grounds.{cell_count}
use Rattle.model.specs.Grounds.Ground.{skewed}
use Rattle.model.specs.Courses.{count as counted, all_iterations}
use Rattle.model.specs.Judging.{bad_rows, bad_count, repeats, no_iteration, judge_rows}
use Rattle.model.specs.Windows.{centre_of}
use Rattle.model.specs.declared.Bounds.{Bounds}
use Rattle.model.specs.declared.Refusal.{Refusal}
use Rattle.model.specs.declared.Window.{Window}
use Rattle.rows.specs.Courses.{whole_course, course_for}
use Rattle.rows.specs.declared.RowCourse.{RowCourse}
use Rattle.rows.specs.declared.RowSurvey.{RowSurvey}

-- The first of 16, 4, 5, 6 and 15 that turns rows, window and bounds back; else the centre, the cells, the iterations that a
-- run covers, and their course.
unfoldable pub row_survey_of : (count : ℕ) → List ℕ → Window → Bounds → Result RowSurvey Refusal
row_survey_of count rows w b =
    let found : RowSurvey = record {
      centre = centre_of (offsets_of 2 w);
      cells = cells_of (on_rows count rows w b);
      iterations = iterations_of (on_rows count rows w b);
      course = course_for count (offsets_of 2 w) (part_of 2 b);
    } in
    by_verdict (judge_rows count rows w b) (Ok found) Err

-- The centre, the cells and the course of all iterations, of rows and a window that 16 and 4 to 6 let pass.
pub record Known (count : ℕ) (rows : List ℕ) (w : Window) (s : RowSurvey) : Type 0 where
  pub rows_pass : bad_rows (rows_of count rows) ≡ false
  pub count_pass : bad_count w.count ≡ false
  pub distinct : repeats (offsets_of 2 w) ≡ false
  pub iterates : no_iteration (skewed (rows_of count rows)) (offsets_of 2 w) ≡ false
  pub centre_is : s.centre ≡ centre_of (offsets_of 2 w)
  pub cells_is : s.cells ≡ cell_count (skewed (rows_of count rows))
  pub iterations_is : s.iterations ≡ counted (all_iterations (skewed (rows_of count rows)) (offsets_of 2 w))
  pub course_is : s.course ≡ whole_course count (offsets_of 2 w)

-- What later functions ask: the survey of these accepts, and this is its course.
pub record Surveyed (count : ℕ) (rows : List ℕ) (w : Window) (b : Bounds) (c : RowCourse) : Type 0 where
  pub accepted : judge_rows count rows w b ≡ Ok tt
  pub course : c ≡ course_for count (offsets_of 2 w) (part_of 2 b)
