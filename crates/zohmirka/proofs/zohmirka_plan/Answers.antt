use Rattle.zohmirka.proofs.zohmirka_plan.Goals as goal

pub returns : goal.returns
returns c = rw c.written.ensures c.plan.ensures
