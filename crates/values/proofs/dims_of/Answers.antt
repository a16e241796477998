use mathlib.Core.Path.{sym}
use Rattle.grid_laws.proofs.ChainLaws.{dims_flat, dims_skewed}
use Rattle.values.proofs.dims_of.Goals as goal

pub returns-then-grid : goal.returns-then-grid
returns-then-grid c = sym (dims_skewed c.args.grid c.if-grid.true)

pub returns : goal.returns
returns c = sym (dims_flat c.args.grid c.if-grid.false)
