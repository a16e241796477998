use mathlib.Core.Path.{sym, ◌∙◌}
use Rattle.sheet_reader.proofs.StepLaws.{accepted_room, step_accepted, step_refused}
use Rattle.sheet_reader.proofs.step.Goals as goal

pub accept_line-requires : goal.accept_line-requires
accept_line-requires c =
    accepted_room _ _ _ _ (sym c.line_verdict-v.ensures ∙ c.in-Ok.is)

pub returns-in-Ok : goal.returns-in-Ok
returns-in-Ok c =
    step_accepted _ _ _ _ _ (sym c.line_verdict-v.ensures ∙ c.in-Ok.is) c.accept_line.ensures

pub returns-in-Err : goal.returns-in-Err
returns-in-Err c =
    step_refused _ _ _ _ _ (sym c.line_verdict-v.ensures ∙ c.in-Err.is)
