use Rattle.program_cells.proofs.new_line.Goals as goal

pub returns : goal.returns
returns c = rw c.empty_frame.ensures
