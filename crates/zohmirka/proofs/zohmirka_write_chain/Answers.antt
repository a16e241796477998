use mathlib.Core.Path.{◌∙◌}
use Rattle.zohmirka.proofs.FaceCalls.{sheet_written}
use Rattle.zohmirka.proofs.zohmirka_write_chain.Goals as goal

pub returns : goal.returns
returns c = rw c.written.ensures (sheet_written _ _ _ _ _ c.write_chain.ensures ∙ rw c.chain_in.ensures)
