use Rattle.program_intake.proofs.close_line.Goals as goal

pub returns : goal.returns
returns c = rw (c.step-s.ensures, c.empty_frame.ensures)
