use Rattle.sheet_reader.proofs.begin.Goals as goal

pub returns : goal.returns
returns c = rw c.blank_chain.ensures
