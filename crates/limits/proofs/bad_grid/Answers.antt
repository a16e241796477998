use mathlib.Core.Path.{sym, ◌∙◌}
use Rattle.limits.proofs.SizeLaws.{bad_dimensions, by_sizes}
use Rattle.limits.proofs.bad_grid.Goals as goal

pub returns-then-bad_dims : goal.returns-then-bad_dims
returns-then-bad_dims c = c.if-bad_dims.true ∙ bad_dimensions c.args.grid (sym c.bad_dims.ensures ∙ c.if-bad_dims.true)

pub returns-else-bad_dims : goal.returns-else-bad_dims
returns-else-bad_dims c =
    let long = c.well_formed.0.1.1.1.1.1.0.1.0.1 in
    c.bad_sizes.ensures ∙ by_sizes c.args.grid long (sym c.bad_dims.ensures ∙ c.if-bad_dims.false)
