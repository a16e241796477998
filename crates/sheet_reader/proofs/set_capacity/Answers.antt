use mathlib.Core.Path.{sym}
use native.Mathlib.Omega.{arith}
use lib.Seq.{set_out}
use Rattle.sheet_reader.proofs.set_capacity.Goals as goal

pub returns : goal.returns
returns c = sym (set_out _ _ _ (omega arith))
