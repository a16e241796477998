use native.Mathlib.Omega.{arith}
use Rattle.std.proofs.lemmas.Grind.{common_steps}
use Rattle.pair_run.specs.Ports.{entry_of}
use Rattle.pair_run.proofs.ports.entry.Goals as goal

pub returns : goal.returns
unfolding entry_of
returns c = grind (arith, common_steps)
