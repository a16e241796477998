use Rattle.program_jobs.proofs.begin.Goals as goal

pub returns : goal.returns
returns c = rw (c.«open».ensures, c.new_line.ensures)
