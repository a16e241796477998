use Rattle.model.specs.Answers.{verdict_number, answer_number, answer_counts}
use Rattle.zohmirka_reports.specs.Reports.{case_of, report_of}
use Rattle.zohmirka_reports.proofs.refused.Goals as goal

pub returns : goal.returns
unfolding report_of case_of verdict_number answer_number answer_counts
returns c = rw c.number.ensures
