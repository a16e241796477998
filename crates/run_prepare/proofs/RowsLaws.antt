-- A run call on rows: where its references read, by the tables, and what each of the checks in their order leaves.
use Prim.Native.Nat.{ℕ, ◌+◌, ◌-◌, ◌≤◌, ◌<◌, min}
use mathlib.Core.Bool.{Bool, true, false}
use mathlib.Core.List.{List}
use mathlib.Core.Path.{◌≡◌, refl, sym, ◌∙◌, ap, subst}
use native.Mathlib.Omega.{arith}
use lib.ListN.{length}
use borrow.Author.Tests.{ltb-false}
use Rattle.model.specs.Lists.{sum}
use Rattle.model.specs.Grounds.{Row, cells_above}
use Rattle.model.specs.Values.{Trimmed, rows_of, ground_of, dims_of, capacities_of, trimmed, set_grid, on_rows}
use Rattle.model.specs.Iterations.{cells_of, position_of, course_of, iterations_of, iteration_of, reads_of}
use Rattle.model.specs.Judging.{judge_chain}
use Rattle.model_run.specs.Clock.{Counters}
use Rattle.model_run.specs.Running.{layout, short_store, judge_run}
use Rattle.model.specs.declared.Chain.{Chain}
use Rattle.model.specs.declared.State.{State}
use Rattle.model.specs.declared.Refusal.{Refusal}
use Rattle.std.specs.Prelude.{Result, Ok, Err}
use Rattle.model.specs.Answers.{verdict_of}
use Rattle.grid_laws.proofs.CheckLaws.{window_passes}
use Rattle.grid_laws.proofs.Iterations.{below_cells}
use Rattle.flow.specs.Machine.{Invariant}
use Rattle.run_laws.specs.Accepted.{Accepted}
use Rattle.run_laws.proofs.Accepts.{trimmed_proper, fitting_of}
use Rattle.geometry.specs.Parts as parts
use Rattle.rows.specs.Courses.{row_length}
use Rattle.rows.specs.Surveys.{Surveyed}
use Rattle.rows.specs.declared.RowCourse.{RowCourse}
use Rattle.rows.specs.declared.RowSurvey.{RowSurvey}
use Rattle.rows.proofs.SurveyLaws.{Answer, survey_answer}
use Rattle.row_courses.specs.CourseTables.{above_count, lengths_above, read_at}
use Rattle.row_courses.proofs.TableLaws.{above_good}
use Rattle.row_courses.proofs.RunLaws.{looked_is, few_rows_in, iterations_are, in_row, reads_row}
use Rattle.judging.specs.Checks.{judged_behind, told, examined_rows}
use Rattle.judging.specs.declared.Examined.{Examined}
use Rattle.judging.proofs.JudgeLaws.{rows_examined, rows_survey}
use Rattle.run_prepare.specs.Prepared.{number_at, blank, Counted, TakenUp}
use Rattle.run_prepare.specs.Ready.{Stored}
use Rattle.run_prepare.specs.RowsReady.{in_rows, RowReads, RowsFound, RowTables, RowsBegun, RowsReadied}
use Rattle.run_prepare.proofs.PrepareGuards.{counters_are, good_counters}
use Rattle.run_prepare.proofs.ReadyLaws.{judged_fine}

-- A chain on rows is as it was.
in_rows_lem : (c : Chain) → c.grid.skewed ≡ true → in_rows c ≡ c
in_rows_lem c skewed = λ i. set_grid (record { skewed = sym skewed i; rows = c.grid.rows; dims = c.grid.dims; sizes = c.grid.sizes }) c

-- A chain's window and box on its rows.
abbrev onto : Chain → (rows : List ℕ) → Trimmed
onto c rows = on_rows c.grid.rows rows c.window c.bounds

-- Cells, iterations and what is read are those of the window and the box on the rows.
module _ (c : Chain) (skewed : c.grid.skewed ≡ true) (rows : List ℕ) where
  pub cells_alike : cells_of (trimmed c rows) ≡ cells_of (onto c rows)
  unfolding trimmed ground_of cells_of
  cells_alike = ap (λ (d : Chain). cells_of (trimmed d rows)) (sym (in_rows_lem c skewed))

  pub iterations_alike : iterations_of (trimmed c rows) ≡ iterations_of (onto c rows)
  unfolding trimmed ground_of dims_of iterations_of course_of
  iterations_alike = ap (λ (d : Chain). iterations_of (trimmed d rows)) (sym (in_rows_lem c skewed))

  pub reads_alike : (j k : ℕ) → reads_of (trimmed c rows) j k ≡ reads_of (onto c rows) j k
  unfolding trimmed ground_of dims_of reads_of position_of iteration_of course_of
  reads_alike j k = ap (λ (d : Chain). reads_of (trimmed d rows) j k) (sym (in_rows_lem c skewed))

module _ (c : Chain) (rows : List ℕ) where
  -- What is found of a chain is what is found of it on rows.
  as_rows : examined_rows c rows ≡ examined_rows (in_rows c) rows
  unfolding examined_rows judged_behind capacities_of
  as_rows = refl

  pub found_verdict : (r : Result (Examined RowSurvey) Refusal) → r ≡ examined_rows c rows → judge_chain (in_rows c) rows ≡ told r
  found_verdict r e = sym (rows_examined (in_rows c) rows refl) ∙ sym (ap told (e ∙ as_rows))

  pub rows_found : (s : Examined RowSurvey) → Ok s ≡ examined_rows c rows → RowsFound (in_rows c) rows s.survey
  unfolding trimmed dims_of
  rows_found s e = record {
    surveyed = answer.surveyed;
    iterations_are = answer.iterations ∙ sym (iterations_alike (in_rows c) refl rows);
    cells_are = answer.cells ∙ sym (cells_alike (in_rows c) refl rows);
    centre_is = answer.centre;
  }
    where
      answer : Answer c.grid.rows rows c.window c.bounds s.survey
      answer = survey_answer c.grid.rows rows c.window c.bounds s.survey (rows_survey c rows s (sym e))

-- Where the references read, by the tables.
module _ (c : Chain) (skewed : c.grid.skewed ≡ true) (rows : List ℕ) (ok : Accepted (trimmed c rows)) (course : RowCourse)
    (surveyed : Surveyed c.grid.rows rows c.window c.bounds course) (above iterations : List ℕ)
    (a : parts.Filled 513 0 (cells_above (rows_of c.grid.rows rows)) (c.grid.rows + 1) above)
    (i : parts.Filled 513 0 (lengths_above (row_length (rows_of c.grid.rows rows) course)) (course.height + 1) iterations) where
  abbrev rs : List Row
  rs = rows_of c.grid.rows rows

  abbrev lengths : ℕ → ℕ
  lengths v = lengths_above (row_length rs course) v

  above_row : (v : ℕ) → v ≤ course.height → number_at iterations v ≡ lengths v
  above_row v h = i.done v (omega arith)

  in_row_read : (j v k : ℕ) → v < course.height → (lengths v + (j - lengths v) ≡ j) × (j - lengths v < row_length rs course v) → k < c.window.count
      → read_at rs above course v k + (j - lengths v) ≡ reads_of (trimmed c rows) j k
  in_row_read j v k h (back, inside) l =
      sym (reads_row c.grid.rows rows c.window c.bounds course surveyed v (j - lengths v) h inside above (λ n m. a.done n (omega arith)) k l)
      ∙ ap (λ (j : ℕ). reads_of (onto c rows) j k) back ∙ sym (reads_alike c skewed rows j k)

  pub rows_read : RowReads (trimmed c rows) c.grid.rows rows course c.window.count above iterations
  unfolding trimmed lengths_above
  rows_read = record {
    few = ok.few;
    looked_is = looked_is c.grid.rows rows c.window c.bounds course surveyed;
    few_rows = few_rows_in c.grid.rows rows c.window c.bounds course surveyed;
    none_above = above_row 0 (omega arith);
    all_above =
        above_row course.height (omega arith) ∙ sym (iterations_are c.grid.rows rows c.window c.bounds course surveyed) ∙ sym (iterations_alike c skewed rows);
    reads_are = λ j v k r l.
        ap (λ (x : ℕ). read_at rs above course v k + (j - x)) (above_row v (omega (arith, r.below)))
        ∙ in_row_read j v k r.below (in_row c.grid.rows rows c.window c.bounds course surveyed iterations above_row j v r) l;
    near = λ j k b l. omega (arith, below_cells (trimmed c rows) (fitting_of (trimmed c rows) (trimmed_proper c rows) ok) j k b l, ok.cells);
  }

rows_counted : (c : Chain) (rows : List ℕ) → Accepted (trimmed c rows) → (cells iterations : ℕ) → cells ≡ cells_of (trimmed c rows) → iterations ≡ iterations_of (trimmed c rows)
    → Counted (trimmed c rows) c.window.count cells iterations
unfolding trimmed
rows_counted c rows ok cells iterations d e = record { proper = trimmed_proper c rows; accepted = ok; count_is = refl; cells_are = sym d; iterations_are = sym e }

-- The same of the tables that a call is handed.
module _ {c : Chain} {rows : List ℕ} {s : RowSurvey} {above iterations caps bases tops : List ℕ} (T : RowTables c rows s above iterations caps bases tops) where
  pub tables_counted : Counted (trimmed c rows) c.window.count s.cells s.iterations
  tables_counted = rows_counted c rows T.accepted s.cells s.iterations T.cells_are T.iterations_are

  pub tables_read : RowReads (trimmed c rows) c.grid.rows rows s.course c.window.count above iterations
  tables_read = rows_read c T.skewed rows T.accepted s.course T.surveyed above iterations T.cells_above_lem T.iterations_above_lem

-- The tables, as they are filled.
module _ (c : Chain) (rows : List ℕ) (ok : Accepted (trimmed (in_rows c) rows)) (s : RowSurvey) (found : RowsFound (in_rows c) rows s) (above iterations : List ℕ)
    (a : parts.Filled 513 0 (cells_above (rows_of c.grid.rows rows)) (above_count c.grid.rows rows) above)
    (i : parts.Filled 513 0 (lengths_above (row_length (rows_of c.grid.rows rows) s.course)) (min s.course.height 512 + 1) iterations) where
  cells_filled : parts.Filled 513 0 (cells_above (rows_of c.grid.rows rows)) (c.grid.rows + 1) above
  cells_filled =
      subst (λ (n : ℕ). parts.Filled 513 0 (cells_above (rows_of c.grid.rows rows)) n above)
      (sym (above_good c.grid.rows rows (window_passes (onto c rows) found.surveyed.accepted).grid)) a

  iterations_filled : parts.Filled 513 0 (lengths_above (row_length (rows_of c.grid.rows rows) s.course)) (s.course.height + 1) iterations
  iterations_filled =
      let n : min s.course.height 512 + 1 ≡ s.course.height + 1 = omega (arith, few_rows_in c.grid.rows rows c.window c.bounds s.course found.surveyed) in
      subst (λ (n : ℕ). parts.Filled 513 0 (lengths_above (row_length (rows_of c.grid.rows rows) s.course)) n iterations) n i

  pub found_counted : Counted (trimmed (in_rows c) rows) c.window.count s.cells s.iterations
  found_counted = rows_counted (in_rows c) rows ok s.cells s.iterations found.cells_are found.iterations_are

  pub found_read : RowReads (trimmed (in_rows c) rows) c.grid.rows rows s.course c.window.count above iterations
  found_read = rows_read (in_rows c) refl rows ok s.course found.surveyed above iterations cells_filled iterations_filled

  -- No refusal: the tables are there.
  module _ (state : State) (caps bases tops passed store wants : List ℕ) (bad : Bool) (T : Stored (in_rows c) rows caps bases tops store)
      (u : TakenUp (trimmed (in_rows c) rows) state c.window.count bad passed wants) (e : bad ≡ false) where
    row_tables : RowTables (in_rows c) rows s above iterations caps bases tops
    row_tables = record {
      accepted = ok;
      skewed = refl;
      surveyed = found.surveyed;
      cells_above_lem = cells_filled;
      iterations_above_lem = iterations_filled;
      caps_are = T.capable.capped.capacities_are;
      bases_are = T.bases_are;
      tops_are = T.tops_are;
      iterations_are = found.iterations_are;
      cells_are = found.cells_are;
      centre_is = found.centre_is;
    }

    pub rows_readied : RowsReadied (in_rows c) rows state (Ok s) above iterations caps bases tops passed store
    unfolding trimmed short_store
    rows_readied =
        let good = sym u.bad_is ∙ e in
        let now = counters_are c.window.count state blank passed (omega (arith, ok.few)) u.passed_are in
        record {
          verdict_is = sym (judged_fine (in_rows c) rows state store ok T.long good);
          begun = λ d e. subst (λ (s : RowSurvey). RowsBegun (in_rows c) rows state s above iterations caps bases tops passed store) (let y : s ≡ d = cc in y) (record {
            tables = row_tables;
            there = u.passed_are.long;
            room = ltb-false (length store) (sum (trimmed (in_rows c) rows).capacities) T.long;
            holds = subst (Invariant (layout (trimmed (in_rows c) rows))) (sym now) (good_counters (trimmed (in_rows c) rows) state good);
            counters = ap (λ (k : Counters). k.passed) now;
          });
        }

-- A refusal says nothing of the tables.
pub rows_refused : (c : Chain) (rows : List ℕ) (state : State) (x : Refusal) (above iterations caps bases tops passed store : List ℕ)
    → judge_run (trimmed c rows) state store ≡ Err x → RowsReadied c rows state (Err x) above iterations caps bases tops passed store
rows_refused c rows state x above iterations caps bases tops passed store j = record {
  verdict_is = sym j;
  begun = λ s a. absurd (let y : ◌≡◌ {A = ℕ} 0 1 = cc in omega arith);
}

-- The call is of the chain as it was.
pub readied_skewed : (c : Chain) → c.grid.skewed ≡ true → (rows : List ℕ) (state : State) (r : Result RowSurvey Refusal) (above iterations caps bases tops passed store : List ℕ)
    → RowsReadied (in_rows c) rows state r above iterations caps bases tops passed store → RowsReadied c rows state r above iterations caps bases tops passed store
readied_skewed c skewed rows state r above iterations caps bases tops passed store d =
    subst (λ (c : Chain). RowsReadied c rows state r above iterations caps bases tops passed store) (in_rows_lem c skewed) d
