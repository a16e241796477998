-- `index` gives an index as a signed number. Assumes nothing.
use mir.Facts.{to_z_pos}
use mir.Syntax.{w32}
use native.Mathlib.Omega.{arith}
use Rattle.nested.proofs.requests.index.Goals as goal

pub returns : goal.returns
returns c = to_z_pos w32 (omega arith)
