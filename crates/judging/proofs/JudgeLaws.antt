-- Laws of the checks in their groups.
use Prim.Native.Nat.{ℕ}
use mathlib.Core.Bool.{Bool, true, false, cond}
use mathlib.Core.List.{List, [], ◌∷◌, ◌++◌}
use mathlib.Core.Path.{◌≡◌, refl, sym, ◌∙◌, ap, ap₂}
use native.Mathlib.Omega.{arith}
use lib.Dec.{ltb}
use Rattle.model.specs.Lists.{sum}
use Rattle.model.specs.Windows.{centre_of}
use Rattle.model.specs.Values.{Trimmed, dims_of, offset_of, offsets_of, on_rectangle, on_rows, capacities_of, order_of, trimmed}
use Rattle.model.specs.Answers.{Verdict, check, first_of, by_verdict, verdict_of}
use Rattle.model.specs.Judging.{most_places, bad_count, centred, too_large, bad_order, window_checks, kernel_checks, chain_checks, value_checks, judged, judge_window, judge_rectangle, judge_rows, judge_behind, judge_chain}
use Rattle.model.specs.declared.Grid.{Grid}
use Rattle.model.specs.declared.Window.{Window}
use Rattle.model.specs.declared.Kernel.{Kernel}
use Rattle.model.specs.declared.Bounds.{Bounds}
use Rattle.model.specs.declared.Chain.{Chain}
use Rattle.model.specs.declared.Refusal.{Refusal}
use Rattle.model.specs.declared.Refusal.TheVariants as refusal
use Rattle.std.specs.Prelude.{Result, Ok, Err}
use Rattle.grid_laws.proofs.ListLaws.{length_tabulate}
use Rattle.grid_laws.proofs.ChainLaws.{dims_flat, on_flat, dims_skewed, on_skewed}
use Rattle.grid_laws.proofs.CheckLaws.{then_checks, answer_back, WindowPasses, window_passes}
use Rattle.windows.specs.Windows.{centre_in}
use Rattle.shape.specs.Shapes.{survey_of, chain_shape}
use Rattle.shape.specs.declared.Survey.{Survey}
use Rattle.windows.proofs.OffsetLaws.{below_count}
use Rattle.shape.proofs.Answers.{centre_is, survey_verdict, survey_passed}
use Rattle.rows.specs.Surveys.{row_survey_of}
use Rattle.rows.specs.declared.RowSurvey.{RowSurvey}
use Rattle.rows.proofs.SurveyLaws.{survey_verdict as rows-verdict, survey_passed as rows-passed, survey_answer}
use Rattle.judging.specs.Checks.{judged_rest, judged_behind, told, examined_of, examined_rows}
use Rattle.judging.specs.declared.Examined.{Examined}

-- 14 is looked at where 7, 8 and 9 pass, and 9 goes by the sum of the capacities.
module _ (k : Kernel) (b : Bool) (capacities : List ℕ) (n : ℕ) (order : List ℕ) where
  by_total : judged_rest k b capacities n order
      ≡ by_verdict (judge_behind k b (sum capacities)) (cond (bad_order n order) (Err refusal.BadOrder) (Ok tt)) Err
  unfolding judged_rest judge_behind kernel_checks chain_checks too_large first_of
  by_total = then_checks (kernel_checks k b ++ (check (ltb most_places (sum capacities)) refusal.TooLarge ∷ [])) (check (bad_order n order) refusal.BadOrder ∷ [])

  pub rest_refused : (x : Refusal) → judge_behind k b (sum capacities) ≡ Err x → Err x ≡ judged_rest k b capacities n order
  rest_refused x e = sym (rw e at by_total)

  pub rest_order : (bad : Bool) → judge_behind k b (sum capacities) ≡ Ok tt → bad_order n order ≡ bad
      → cond bad (Err refusal.BadOrder) (Ok tt) ≡ judged_rest k b capacities n order
  rest_order bad e f = sym (rw (e, f) at by_total)

-- What was found of the window of a chain, then the rest.
abbrev behind : Verdict → (dims : ℕ) → Chain → Verdict
behind v dims c = by_verdict v (judged_rest c.kernel (centred (offsets_of dims c.window)) (capacities_of c) c.window.count (order_of c.window.count c.order)) Err

verdict_behind : {A : Type 0} (found : Result A Refusal) (dims : ℕ) (c : Chain) → told (judged_behind found dims c) ≡ behind (verdict_of found) dims c
unfolding judged_behind
verdict_behind (Ok a) dims c = refl
verdict_behind (Err x) dims c = refl

-- A chain whose survey refuses, and one whose survey is answered.
pub behind_refused : {A : Type 0} (found : Result A Refusal) (dims : ℕ) (c : Chain) (x : Refusal) → found ≡ Err x → Err x ≡ judged_behind found dims c
unfolding judged_behind
behind_refused found dims c x e = rw e

pub behind_found : {A : Type 0} (found : Result A Refusal) (dims : ℕ) (c : Chain) (a : Examined A) → judged_behind found dims c ≡ Ok a → found ≡ Ok a.survey
unfolding judged_behind
behind_found (Ok b) dims c a e = let f : record { survey = b; verdict = judged_rest c.kernel (centred (offsets_of dims c.window)) (capacities_of c) c.window.count (order_of c.window.count c.order) } ≡ a = cc in ap Ok (ap (λ (t : Examined _). t.survey) f)
behind_found (Err x) dims c a e = absurd (let z : ◌≡◌ {A = ℕ} 0 1 = cc in omega arith)

-- There is a centre exactly if its number is below the count.
module _ {A : Type 0} (found : Result A Refusal) (dims : ℕ) (c : Chain) (a : A) (e : found ≡ Ok a) (m : ℕ) (is : m ≡ centre_of (offsets_of dims c.window)) where
  abbrev rest : Bool → Verdict
  rest b = judged_rest c.kernel b (capacities_of c) c.window.count (order_of c.window.count c.order)

  rest_is : rest (ltb m c.window.count) ≡ rest (centred (offsets_of dims c.window))
  unfolding offsets_of
  rest_is = ap rest (
      ap (λ (m : ℕ). ltb m c.window.count) is
      ∙ ap (ltb (centre_of (offsets_of dims c.window))) (sym (length_tabulate c.window.count (offset_of dims c.window))) ∙ below_count (offsets_of dims c.window)
      )

  pub behind_is : Ok (record { survey = a; verdict = rest (ltb m c.window.count) }) ≡ judged_behind found dims c
  unfolding judged_behind
  behind_is = rw (e, rest_is)

-- A chain: its window is judged, then the rest.
by_rest : (c : Chain) (rows : List ℕ) → behind (judge_window c.grid rows c.window c.bounds) (dims_of c.grid) c ≡ judge_chain c rows
unfolding judge_chain judged value_checks window_checks trimmed judged_rest
by_rest c rows = sym (then_checks (window_checks (trimmed c rows)) _)

-- ---- a chain on a rectangle

module _ (g : Grid) (w : Window) (x : Bounds) (s : Survey) (e : survey_of g w x ≡ Ok s) where
  abbrev parts_pass : WindowPasses (on_rectangle g w x)
  parts_pass = window_passes (on_rectangle g w x) (survey_passed g w x s e)

  pub survey_count : bad_count w.count ≡ false
  survey_count = parts_pass.count

  pub survey_centre : s.centre ≡ centre_of (offsets_of g.dims w)
  unfolding survey_of
  survey_centre = ap (λ (t : Survey). t.centre) (answer_back (judge_rectangle g w x) _ s e)

module _ (c : Chain) (flat : c.grid.skewed ≡ false) (rows : List ℕ) where
  flatly : judge_window c.grid rows c.window c.bounds ≡ judge_rectangle c.grid c.window c.bounds
  flatly = ap (λ (t : Trimmed). first_of (window_checks t)) (on_flat c.grid flat rows c.window c.bounds)

  pub examined_verdict : told (examined_of c) ≡ judge_chain c rows
  unfolding examined_of
  examined_verdict =
      verdict_behind (survey_of c.grid c.window c.bounds) c.grid.dims c
      ∙ ap₂ (λ (v : Verdict) (n : ℕ). behind v n c) (survey_verdict c.grid c.window c.bounds ∙ sym flatly) (sym (dims_flat c.grid flat)) ∙ by_rest c rows

-- Examining finds what the survey does: the centre and the shape.
module _ (c : Chain) (s : Examined Survey) (e : examined_of c ≡ Ok s) where
  pub examined_survey : survey_of c.grid c.window c.bounds ≡ Ok s.survey
  unfolding examined_of
  examined_survey = behind_found (survey_of c.grid c.window c.bounds) c.grid.dims c s e

  pub examined_shape : s.survey.shape ≡ chain_shape c
  unfolding survey_of chain_shape
  examined_shape = ap (λ (t : Survey). t.shape) (answer_back (judge_rectangle c.grid c.window c.bounds) _ s.survey examined_survey)

  pub examined_centre : s.survey.centre ≡ centre_in c.grid.dims c.window
  examined_centre =
      let p = parts_pass c.grid c.window c.bounds s.survey examined_survey in
      survey_centre c.grid c.window c.bounds s.survey examined_survey ∙ sym (centre_is c.grid c.window p.grid p.count)

-- ---- a chain on rows

module _ (n : ℕ) (rows : List ℕ) (w : Window) (x : Bounds) (s : RowSurvey) (e : row_survey_of n rows w x ≡ Ok s) where
  pub rows_count : bad_count w.count ≡ false
  rows_count = (window_passes (on_rows n rows w x) (rows-passed n rows w x s e)).count

  pub rows_centre : s.centre ≡ centre_of (offsets_of 2 w)
  rows_centre = (survey_answer n rows w x s e).centre

module _ (c : Chain) (rows : List ℕ) where
  pub rows_survey : (s : Examined RowSurvey) → examined_rows c rows ≡ Ok s → row_survey_of c.grid.rows rows c.window c.bounds ≡ Ok s.survey
  unfolding examined_rows
  rows_survey s e = behind_found (row_survey_of c.grid.rows rows c.window c.bounds) 2 c s e

  module _ (skewed : c.grid.skewed ≡ true) where
    skewedly : judge_window c.grid rows c.window c.bounds ≡ judge_rows c.grid.rows rows c.window c.bounds
    skewedly = ap (λ (t : Trimmed). first_of (window_checks t)) (on_skewed c.grid skewed rows c.window c.bounds)

    pub rows_examined : told (examined_rows c rows) ≡ judge_chain c rows
    unfolding examined_rows
    rows_examined =
        verdict_behind (row_survey_of c.grid.rows rows c.window c.bounds) 2 c
        ∙ ap₂ (λ (v : Verdict) (n : ℕ). behind v n c) (rows-verdict c.grid.rows rows c.window c.bounds ∙ sym skewedly) (sym (dims_skewed c.grid skewed)) ∙ by_rest c rows
