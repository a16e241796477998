use Rattle.program_intake.proofs.open.Goals as goal

pub returns : goal.returns
returns c = rw (c.begin.ensures, c.empty_frame.ensures)
