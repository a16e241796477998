use Rattle.sheet_laws.specs.Sections.{grid_len}
use Rattle.sheet_writer.proofs.grid_len.Goals as goal

pub returns-then-g : goal.returns-then-g
unfolding grid_len
returns-then-g c = rw c.if-g.true

pub returns : goal.returns
unfolding grid_len
returns c = rw c.if-g.false
