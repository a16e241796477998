-- The reports of calls.
use Rattle.std.specs.Prelude.{ℕ, Result, Ok, Err}
use Rattle.std.specs.Result.{result_unwrap_or}
use Rattle.model.specs.Answers.{Answer, verdict_of, verdict_number, outcome_case, answer_number, answer_counts}
use Rattle.model.specs.declared.Refusal.{Refusal}
use Rattle.zohmirka_reports.specs.declared.Report.{Report}
use Rattle.zohmirka_reports.specs.declared.Sheet.{Sheet}

-- Of a call that writes a sheet: the bytes, or 0 and why not.
abbrev pub sheet_report : Result ℕ Refusal → Sheet
sheet_report wrote = record { refusal = verdict_number (verdict_of wrote); bytes = result_unwrap_or wrote 0 }

-- Of a run call.
unfoldable pub case_of : Answer → ℕ
case_of (Ok o) = outcome_case o
case_of (Err x) = 5

unfoldable pub report_of : Answer → Report
report_of a = record {
  refusal = answer_number a;
  outcome = case_of a;
  cells = (answer_counts a).cells;
  firings = (answer_counts a).firings;
  clocks = (answer_counts a).clocks;
}
