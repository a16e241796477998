-- The reports of run calls as c/zohmirka.h has them: one table, computed.
use Rattle.std.specs.Prelude.{ℕ, List, [], ◌∷◌, map, ◌≡◌, refl, Ok, Err}
use Rattle.model.specs.Answers.{Answer, number_of, outcome_case, outcome_counts, answer_number, answer_counts}
use Rattle.model.specs.declared.Counts.{Counts}
use Rattle.model.specs.declared.Outcome.TheVariants as outcome
use Rattle.model.specs.declared.Refusal.TheVariants as refusal
use Rattle.zohmirka_reports.specs.declared.Report.{Report}
use Rattle.zohmirka_reports.specs.Reports.{case_of, report_of}

abbrev counts : Counts
counts = record { cells = 7; firings = 8; clocks = 9 }

-- "5 exactly if `refusal` is not 0"; counts are 0 after a refusal.
unfoldable pub answers : List Answer
answers =
    Ok (outcome.Done counts)
    ∷ Ok (outcome.Spent counts)
    ∷ Ok (outcome.Starved counts)
    ∷ Ok (outcome.Stalled counts)
    ∷ Ok (outcome.Full counts)
    ∷ Err refusal.BadState
    ∷ []

abbrev ended : ℕ → Report
ended outcome = record { refusal = 0; outcome = outcome; cells = 7; firings = 8; clocks = 9 }

pub table : map report_of answers
    ≡ ended 0
    ∷ ended 1
    ∷ ended 2
    ∷ ended 3
    ∷ ended 4
    ∷ record { refusal = 11; outcome = 5; cells = 0; firings = 0; clocks = 0 }
    ∷ []
unfolding answers number_of outcome_case outcome_counts answer_number answer_counts case_of report_of
table = refl
