use mathlib.Core.Path.{sym}
use native.Mathlib.Omega.{arith}
use Rattle.sheet_windows.proofs.NamedLaws.{no_name}
use Rattle.sheet_windows.proofs.references.Goals as goal

pub returns-in_default : goal.returns-in_default
returns-in_default c = sym (no_name c.args.name (λ h. omega arith))
