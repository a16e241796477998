use mathlib.Core.Path.{◌∙◌}
use Rattle.pair_run.proofs.PortLaws.{given_so}
use Rattle.pair_run.proofs.ports.give_by.Goals as goal

pub returns : goal.returns
returns c =
    c.give.ensures ∙ given_so c.args.g c.args.n c.args.count c.args.at c.args.batch.now c.args.out.now c.requires
