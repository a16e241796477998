use mathlib.Core.Path.{refl}
use Rattle.pair_run.proofs.CallLaws.{port_is}
use Rattle.pair_run.proofs.ports.port_of.Goals as goal

pub returns : goal.returns
returns c =
    port_is c.args.dims c.args.chain c.args.side _ _ c.terms_of-added.result c.chain_order-shown.result _ _ _ _ _ refl c.centre-centre.ensures
    c.terms_of-added.ensures c.chain_order-shown.ensures c.held-held.ensures c.width.ensures c.through.ensures c.through-2.ensures c.entry.ensures
