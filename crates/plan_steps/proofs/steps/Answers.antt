use mathlib.Core.Path.{◌∙◌, sym}
use Rattle.grid_laws.proofs.StepLaws.{steps_flat}
use Rattle.plan_steps.proofs.steps.Goals as goal

pub returns : goal.returns
returns c =
    c.on_rectangle.ensures ∙ sym (steps_flat c.args.grid c.args.rows.now c.args.window c.args.bounds c.if-grid.false)
