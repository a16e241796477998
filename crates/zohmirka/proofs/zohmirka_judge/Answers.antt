use mathlib.Core.Path.{sym, ap, ◌∙◌}
use Rattle.model.specs.Answers.{verdict_of, verdict_number}
use Rattle.zohmirka.proofs.zohmirka_judge.Goals as goal

pub returns-in-Ok : goal.returns-in-Ok
unfolding verdict_number
returns-in-Ok c = rw (← c.read_chain.ensures, c.in-Ok.is)

pub returns-in-Err : goal.returns-in-Err
returns-in-Err c = c.number.ensures ∙ rw (← c.read_chain.ensures, c.in-Err.is)
