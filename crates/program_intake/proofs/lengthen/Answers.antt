use Rattle.program_intake.proofs.lengthen.Goals as goal

pub returns : goal.returns
returns c = rw c.has_begun.ensures
