use native.Mathlib.Omega.{arith}
use Rattle.grid_laws.proofs.ChainLaws.{dims_flat}
use Rattle.planner.proofs.PlanLaws.{flat_grid, skewed_grid_lem}
use Rattle.planner.proofs.trimmed_grid.Goals as goal

pub trimmed-requires : goal.trimmed-requires
trimmed-requires c =
    omega (arith, c.requires, dims_flat c.args.grid c.if-grid.false)

pub returns-then-grid : goal.returns-then-grid
returns-then-grid c = skewed_grid_lem c.args.grid c.if-grid.true

pub returns : goal.returns
returns c =
    flat_grid c.args.grid c.trimmed.result c.if-grid.false c.trimmed.ensures
