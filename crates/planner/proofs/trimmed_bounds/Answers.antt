use borrow.Author.Rules.{rules}
use Rattle.planner.proofs.PlanLaws.{box_is, no_box_is}
use Rattle.planner.proofs.trimmed_bounds.Goals as goal

pub returns-then-bounds : goal.returns-then-bounds
returns-then-bounds c =
    box_is c.args.dims c.args.bounds _ _ c.if-bounds.true c.trimmed.ensures c.trimmed-then-bounds.ensures

pub returns : goal.returns
returns c = no_box_is c.args.dims c.args.bounds (search rules)
