-- The verdicts that judging is made of, each the model's groups of checks as they stand.
use Rattle.std.specs.Prelude.{ℕ, Bool, List, ◌++◌, Result, Ok, Err}
use Rattle.model.specs.Answers.{Verdict, first_of, by_answer}
use Rattle.model.specs.Values.{offsets_of, capacities_of, order_of}
use Rattle.model.specs.Judging.{centred, kernel_checks, chain_checks}
use Rattle.model.specs.declared.Chain.{Chain}
use Rattle.model.specs.declared.Kernel.{Kernel}
use Rattle.model.specs.declared.Refusal.{Refusal}
use Rattle.rows.specs.Surveys.{row_survey_of}
use Rattle.rows.specs.declared.RowSurvey.{RowSurvey}
use Rattle.shape.specs.Shapes.{survey_of}
use Rattle.shape.specs.declared.Survey.{Survey}
use Rattle.judging.specs.declared.Examined.{Examined}

-- The first of 7 to 9 and 14.
unfoldable pub judged_rest : Kernel → (centred : Bool) → (capacities : List ℕ) (n : ℕ) (order : List ℕ) → Verdict
judged_rest k centred capacities n order = first_of (kernel_checks k centred ++ chain_checks capacities n order)

-- What was found of the window of a chain whose offsets have so many entries, and the verdict behind it.
unfoldable pub judged_behind : {A : Type 0} (found : Result A Refusal) (dims : ℕ) → Chain → Result (Examined A) Refusal
judged_behind {A} found dims c =
    let rest = judged_rest c.kernel (centred (offsets_of dims c.window)) (capacities_of c) c.window.count
    (order_of c.window.count c.order) in
    let behind : A → Result (Examined A) Refusal = λ a. Ok (record { survey = a; verdict = rest }) in
    by_answer found behind Err

-- The verdict of both.
abbrev pub told : {A : Type 0} → Result (Examined A) Refusal → Verdict
told (Ok e) = e.verdict
told (Err x) = Err x

-- What judging a chain on a rectangle finds, and one on rows.
unfoldable pub examined_of : Chain → Result (Examined Survey) Refusal
examined_of c = judged_behind (survey_of c.grid c.window c.bounds) c.grid.dims c

unfoldable pub examined_rows : Chain → (rows : List ℕ) → Result (Examined RowSurvey) Refusal
examined_rows c rows = judged_behind (row_survey_of c.grid.rows rows c.window c.bounds) 2 c
