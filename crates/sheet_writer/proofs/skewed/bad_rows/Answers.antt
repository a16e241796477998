use Rattle.sheet_writer.proofs.skewed.bad_rows.Goals as goal

pub returns-then-g : goal.returns-then-g
returns-then-g c = rw c.if-g.true c.bad_rows.ensures

pub returns-else-g : goal.returns-else-g
returns-else-g c = rw c.if-g.false
