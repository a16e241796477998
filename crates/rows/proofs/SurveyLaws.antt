-- What a survey answers, check by check.
use Prim.Native.Nat.{ℕ, zero, suc, ◌+◌, ◌*◌, ◌≤◌, ◌<◌, min}
use mathlib.Core.Bool.{Bool, true, false}
use mathlib.Core.List.{List, [], ◌∷◌}
use mathlib.Core.Path.{◌≡◌, refl, sym, ◌∙◌, ap, ap₂}
use native.Mathlib.Nat.{suc-mul}
use native.Mathlib.Omega.{arith}
use lib.IntN.{ℤ, pos, neg_ℤ}
use lib.ListN.{length, get_or}
use borrow.Author.Tests.{eq-eqb, ne_eqb}
use Rattle.model.specs.Lists.{tabulate, sum}
use Rattle.model.specs.Vectors.{above}
use Rattle.model.specs.Geometry.{first_entry, other_entries}
use Rattle.model.specs.Grounds.{Row, row_cells, cell_count}
use Rattle.model.specs.Grounds.Ground.{skewed}
use Rattle.model.specs.Courses.{count as counted, low_row, low_column, all_iterations}
use Rattle.model.specs.Boxes.{index_count, widths, equal_rows, box_shape, box_course, course, bad_box}
use Rattle.model.specs.Boxes.Part.{box}
use Rattle.model.specs.Answers.{Verdict, first_of, verdict_of}
use Rattle.model.specs.Values.{rows_of, offsets_of, part_of, on_rows}
use Rattle.model.specs.Iterations.{cells_of, course_of, iterations_of}
use Rattle.model.specs.Judging.{bad_rows, bad_count, repeats, no_iteration, window_checks, judge_rows}
use Rattle.model.specs.Windows.{centre_of}
use Rattle.model.specs.declared.Bounds.{Bounds}
use Rattle.model.specs.declared.Refusal.TheVariants as refusal
use Rattle.std.specs.Prelude.{Ok, Err}
use Rattle.model.specs.declared.Window.{Window}
use Rattle.grid_laws.proofs.ChainLaws.{offsets_count, rows_count}
use Rattle.grid_laws.proofs.CheckLaws.{some_references, few_references, answer_back}
use Rattle.geometry.specs.Parts.{number_at}
use Rattle.windows.specs.Windows.{repeats_in, centre_in}
use Rattle.windows.proofs.OffsetLaws.{is_held}
use Rattle.rows.specs.Courses.{downs, ons, length_in, whole_course, box_on, course_for}
use Rattle.rows.specs.Boxing.{placed_in, placed_by, BoxFits}
use Rattle.rows.specs.Surveys.{row_survey_of, Known, Surveyed}
use Rattle.rows.specs.declared.RowCourse.{RowCourse}
use Rattle.rows.specs.declared.RowSurvey.{RowSurvey}
use Rattle.rows.specs.declared.boxed.Placed.{Placed}
use Rattle.rows.proofs.CommonLaws.{few_rows, all_count, lent_cells_lem, cells_sum}
use Rattle.rows.proofs.WindowLaws.{two_sized}
use Rattle.rows.proofs.PlacedLaws.{Fits, fits_box, box_fits}
use Rattle.rows.proofs.FitLaws.{placed_is, fits_numbers, numbers_fit, box_small}

pub whole_is : (count : ℕ) (w : Window) (xs ys : List ℕ) → xs ≡ downs (offsets_of 2 w) → ys ≡ ons (offsets_of 2 w)
    → ◌≡◌ {A = RowCourse} (record { top = 0; height = count; boxed = false; left = 0; width = 0; references = w.count; down = xs; on = ys }) (whole_course count (offsets_of 2 w))
unfolding whole_course
whole_is count w xs ys e f =
    λ i. record { top = 0; height = count; boxed = false; left = 0; width = 0; references = sym (offsets_count 2 w) i; down = e i; on = f i }

module _ (count : ℕ) (rows : List ℕ) (w : Window) (b : Bounds) where
  pub survey_rows : bad_rows (rows_of count rows) ≡ true → Err refusal.BadRows ≡ row_survey_of count rows w b
  unfolding row_survey_of window_checks first_of
  survey_rows e = rw e

  module _ (p : bad_rows (rows_of count rows) ≡ false) where
    pub survey_count : bad_count w.count ≡ true → Err refusal.BadCount ≡ row_survey_of count rows w b
    unfolding row_survey_of window_checks first_of
    survey_count e = rw (p, e)

    module _ (q : bad_count w.count ≡ false) where
      pub few_count : count ≤ 512
      few_count = omega (arith, few_rows (rows_of count rows) p, rows_count count rows)

      pub repeats_is : repeats_in 2 w ≡ repeats (offsets_of 2 w)
      unfolding repeats_in
      repeats_is = rw (is_held 2 w (omega arith) (few_references w.count q))

      pub centre_is : centre_in 2 w ≡ centre_of (offsets_of 2 w)
      unfolding centre_in
      centre_is = rw (is_held 2 w (omega arith) (few_references w.count q))

      pub survey_repeats : repeats (offsets_of 2 w) ≡ true → Err refusal.EqualOffsets ≡ row_survey_of count rows w b
      unfolding row_survey_of window_checks first_of
      survey_repeats e = rw (p, q, e)

      module _ (d : repeats (offsets_of 2 w) ≡ false) (c : RowCourse) (e : c ≡ whole_course count (offsets_of 2 w)) (m : ℕ)
          (s : m ≡ sum (tabulate count (length_in (rows_of count rows) c.down c.on w.count))) where
        iterations_are : m ≡ counted (all_iterations (skewed (rows_of count rows)) (offsets_of 2 w))
        unfolding whole_course
        iterations_are =
            s
            ∙ ap (λ (c : RowCourse). sum (tabulate count (length_in (rows_of count rows) c.down c.on w.count))) e
            ∙ ap₂ (λ (n k : ℕ). sum (tabulate n (length_in (rows_of count rows) (downs (offsets_of 2 w)) (ons (offsets_of 2 w)) k))) (sym (rows_count count rows)) (sym (offsets_count 2 w))
            ∙ all_count (rows_of count rows) (offsets_of 2 w) p (omega (arith, offsets_count 2 w, some_references w.count q)) (omega (arith, offsets_count 2 w, few_references w.count q))

        pub survey_iterations : m ≡ 0 → Err refusal.NoIteration ≡ row_survey_of count rows w b
        unfolding row_survey_of window_checks first_of no_iteration
        survey_iterations z = rw (p, q, d, eq-eqb _ 0 (sym iterations_are ∙ z))

        pub known : (m ≡ 0 → ⊥) → (centre cells : ℕ) → centre ≡ centre_in 2 w → cells ≡ sum (tabulate count (λ i. min (number_at rows (2 * i + 1)) 1024))
            → Known count rows w (record { centre = centre; cells = cells; iterations = m; course = c })
        unfolding no_iteration cell_count
        known some centre cells x y = record {
          rows_pass = p;
          count_pass = q;
          distinct = d;
          iterates = ne_eqb _ 0 (λ z. some (iterations_are ∙ z));
          centre_is = x ∙ centre_is;
          cells_is = y ∙ lent_cells_lem count rows p;
          iterations_is = iterations_are;
          course_is = e;
        }

same_sum : (n w : ℕ) → n * w ≡ sum (tabulate n (λ _. w))
unfolding sum tabulate
same_sum zero w = omega arith
same_sum (suc n) w = suc-mul n w ∙ omega (arith, same_sum n w)

-- Equal rows have the product of their number and length.
equal_cells : (n w : ℕ) → n * w ≡ row_cells (equal_rows (n ∷ w ∷ []))
unfolding equal_rows
equal_cells n w = same_sum n w ∙ sym (cells_sum n (λ _. record { start = 0; length = w }))

-- Of rows and a window that 16 and 4 to 6 let pass.
module _ (count : ℕ) (rows : List ℕ) (w : Window) (b : Bounds) (s : RowSurvey) (k : Known count rows w s) where
  -- Where no box stood, that is the survey.
  pub surveyed : b.stood ≡ false → Ok s ≡ row_survey_of count rows w b
  unfolding row_survey_of window_checks first_of part_of bad_box cells_of iterations_of course_of course
  surveyed e =
      rw (k.rows_pass, k.count_pass, k.distinct, k.iterates, e)
      (λ i. Ok (record { centre = k.centre_is i; cells = k.cells_is i; iterations = k.iterations_is i; course = k.course_is i }))

  -- Where one stood, it is placed by these numbers.
  module _ (stood : b.stood ≡ true) (at : Placed) (a : at ≡ placed_in count b.lowest b.highest (low_row (offsets_of 2 w)) (low_column (offsets_of 2 w))) where
    abbrev rs : List Row
    rs = rows_of count rows

    abbrev offsets : List (List ℤ)
    offsets = offsets_of 2 w

    abbrev lowest : ℕ → ℤ
    lowest d = get_or b.lowest d (pos 0)

    abbrev highest : ℕ → ℤ
    highest d = get_or b.highest d (pos 0)

    some : 0 < length offsets
    some = omega (arith, offsets_count 2 w, some_references w.count k.count_pass)

    few : length offsets ≤ 32
    few = omega (arith, offsets_count 2 w, few_references w.count k.count_pass)

    BoxFitsHere : Type 0
    BoxFitsHere = BoxFits rs s.course.down s.course.on w.count at

    here : BoxFitsHere ≡ BoxFits rs (downs offsets) (ons offsets) (length offsets) (placed_by (length rs) (lowest 0) (lowest 1) (highest 0) (highest 1) (low_row offsets) (low_column offsets))
    unfolding BoxFitsHere whole_course
    here = λ i. BoxFits rs (k.course_is i).down (k.course_is i).on (sym (offsets_count 2 w) i) ((a ∙ ap (λ (n : ℕ). placed_in n b.lowest b.highest (low_row offsets) (low_column offsets)) (sym (rows_count count rows))) i)

    abbrev FitsHere : Type 0
    FitsHere = Fits rs offsets (two_sized w) (lowest 0) (lowest 1) (highest 0) (highest 1)

    fits_here : BoxFitsHere → FitsHere
    fits_here f = numbers_fit rs offsets (two_sized w) few (lowest 0) (lowest 1) (highest 0) (highest 1) (rw here at f)

    here_fits : FitsHere → BoxFitsHere
    here_fits f = rw here (fits_numbers rs offsets (two_sized w) few (lowest 0) (lowest 1) (highest 0) (highest 1) f)

    abbrev bad : Bool
    bad = bad_box (skewed rs) offsets (box (lowest 0 ∷ lowest 1 ∷ []) (highest 0 ∷ highest 1 ∷ []))

    pub box_refused : (BoxFits rs s.course.down s.course.on w.count at → ⊥) → Err refusal.BadBox ≡ row_survey_of count rows w b
    unfolding row_survey_of window_checks first_of part_of tabulate BoxFitsHere
    box_refused none = go bad refl
      where
        go : (t : Bool) → bad ≡ t → Err refusal.BadBox ≡ row_survey_of count rows w b
        go true e = rw (k.rows_pass, k.count_pass, k.distinct, k.iterates, stood, e)
        go false e = absurd (none (here_fits (box_fits rs offsets (two_sized w) (lowest 0) (lowest 1) (highest 0) (highest 1) k.rows_pass some e)))

    module _ (f : BoxFits rs s.course.down s.course.on w.count at) where
      abbrev boxed : Placed
      boxed = record {
        top = above (lowest 0) (neg_ℤ (low_row offsets));
        height = index_count (lowest 0) (highest 0);
        left = above (lowest 1) (neg_ℤ (low_column offsets));
        width = index_count (lowest 1) (highest 1);
      }

      fits : FitsHere
      unfolding BoxFitsHere
      fits = fits_here f

      at_is : at ≡ boxed
      at_is =
          a ∙ ap (λ (n : ℕ). placed_in n b.lowest b.highest (low_row offsets) (low_column offsets)) (sym (rows_count count rows))
          ∙ placed_is rs offsets (two_sized w) few (lowest 0) (lowest 1) (highest 0) (highest 1) fits

      pub box_sizes : (at.height ≤ 512) × (at.width ≤ 8192)
      box_sizes =
          let (x, y) = box_small rs offsets (two_sized w) few (lowest 0) (lowest 1) (highest 0) (highest 1) fits (few_rows rs k.rows_pass) in
          (omega (arith, ap (λ (p : Placed). p.height) at_is), omega (arith, ap (λ (p : Placed). p.width) at_is))

      pub box_accepted : (m : ℕ) → m ≡ at.height * at.width
          → Ok (record {
            centre = s.centre;
            cells = s.cells;
            iterations = m;
            course = record {
              top = at.top;
              height = at.height;
              boxed = true;
              left = at.left;
              width = at.width;
              references = s.course.references;
              down = s.course.down;
              on = s.course.on;
            };
          })
          ≡ row_survey_of count rows w b
      unfolding row_survey_of window_checks first_of part_of tabulate cells_of iterations_of course_of course counted box_course box_shape cell_count widths box_on whole_course first_entry other_entries
      box_accepted m e =
          let good = fits_box rs offsets (two_sized w) (lowest 0) (lowest 1) (highest 0) (highest 1) fits in
          rw (k.rows_pass, k.count_pass, k.distinct, k.iterates, stood, good)
          (λ i. Ok (record {
            centre = k.centre_is i;
            cells = k.cells_is i;
            iterations = (e ∙ ap (λ (p : Placed). p.height * p.width) at_is ∙ equal_cells (index_count (lowest 0) (highest 0)) (index_count (lowest 1) (highest 1))) i;
            course = record {
              top = (at_is i).top;
              height = (at_is i).height;
              boxed = true;
              left = (at_is i).left;
              width = (at_is i).width;
              references = (k.course_is i).references;
              down = (k.course_is i).down;
              on = (k.course_is i).on;
            };
          }))

-- What a survey that is answered says, and its verdict.
pub record Answer (count : ℕ) (rows : List ℕ) (w : Window) (b : Bounds) (s : RowSurvey) : Type 0 where
  pub surveyed : Surveyed count rows w b s.course
  pub centre : s.centre ≡ centre_of (offsets_of 2 w)
  pub cells : s.cells ≡ cells_of (on_rows count rows w b)
  pub iterations : s.iterations ≡ iterations_of (on_rows count rows w b)

module _ (count : ℕ) (rows : List ℕ) (w : Window) (b : Bounds) where
  pub survey_verdict : verdict_of (row_survey_of count rows w b) ≡ judge_rows count rows w b
  unfolding row_survey_of
  survey_verdict = go (judge_rows count rows w b) refl
    where
      go : (v : Verdict) → judge_rows count rows w b ≡ v → verdict_of (row_survey_of count rows w b) ≡ judge_rows count rows w b
      go (Ok _) e = rw e
      go (Err r) e = rw e

  module _ (s : RowSurvey) (e : row_survey_of count rows w b ≡ Ok s) where
    pub survey_passed : judge_rows count rows w b ≡ Ok tt
    survey_passed = sym survey_verdict ∙ ap verdict_of e

    pub survey_answer : Answer count rows w b s
    unfolding row_survey_of
    survey_answer = record {
      surveyed = record { accepted = survey_passed; course = ap (λ (s : RowSurvey). s.course) all };
      centre = ap (λ (s : RowSurvey). s.centre) all;
      cells = ap (λ (s : RowSurvey). s.cells) all;
      iterations = ap (λ (s : RowSurvey). s.iterations) all;
    }
      where
        found : RowSurvey
        found = record { centre = centre_of (offsets_of 2 w); cells = cells_of (on_rows count rows w b); iterations = iterations_of (on_rows count rows w b); course = course_for count (offsets_of 2 w) (part_of 2 b) }

        all : s ≡ found
        all = answer_back (judge_rows count rows w b) found s e
