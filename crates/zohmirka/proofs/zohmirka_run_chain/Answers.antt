use mathlib.Core.Path.{◌∙◌}
use Rattle.zohmirka.proofs.zohmirka_run_chain.Goals as goal

pub returns : goal.returns
returns c =
    c.run_value.ensures ∙ rw c.chain_in.ensures
