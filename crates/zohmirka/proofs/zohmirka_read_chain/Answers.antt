use Rattle.zohmirka.proofs.zohmirka_read_chain.Goals as goal

pub returns : goal.returns
returns c = rw c.number.ensures c.read.ensures
