-- On rows or on a rectangle. Assumes nothing.
use mathlib.Core.Path.{◌∙◌}
use Rattle.runner.proofs.RunLaws.{run_none_lent}
use Rattle.runner.proofs.run.Goals as goal

pub returns : goal.returns
returns c =
    c.run_flat.ensures ∙ run_none_lent c.args.chain c.if-chain.false c.args.rows.now _ _ _ _ _
