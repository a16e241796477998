use mathlib.Core.Path.{◌∙◌}
use Rattle.sheet_order.proofs.OrderLaws.{any_left}
use Rattle.sheet_order.proofs.among.Goals as goal

pub returns : goal.returns
returns c = c.contains.ensures.value ∙ any_left c.args.kind c.args.kinds.now
