use mathlib.Core.Path.{◌∙◌}
use Rattle.model.specs.Answers.{outcome_case, outcome_counts, answer_number, answer_counts}
use Rattle.zohmirka_reports.specs.Reports.{case_of, report_of}
use Rattle.zohmirka_reports.proofs.ended.Goals as goal

pub returns-in-Done : goal.returns-in-Done
unfolding report_of case_of answer_number answer_counts outcome_case outcome_counts
returns-in-Done c = c.counted.ensures ∙ rw c.in-Done.is

pub returns-in-Spent : goal.returns-in-Spent
unfolding report_of case_of answer_number answer_counts outcome_case outcome_counts
returns-in-Spent c = c.counted-in-Spent.ensures ∙ rw c.in-Spent.is

pub returns-in-Starved : goal.returns-in-Starved
unfolding report_of case_of answer_number answer_counts outcome_case outcome_counts
returns-in-Starved c = c.counted-in-Starved.ensures ∙ rw c.in-Starved.is

pub returns-in-Stalled : goal.returns-in-Stalled
unfolding report_of case_of answer_number answer_counts outcome_case outcome_counts
returns-in-Stalled c = c.counted-in-Stalled.ensures ∙ rw c.in-Stalled.is

pub returns-in-Full : goal.returns-in-Full
unfolding report_of case_of answer_number answer_counts outcome_case outcome_counts
returns-in-Full c = c.counted-in-Full.ensures ∙ rw c.in-Full.is
