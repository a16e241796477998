use Prim.Native.Nat.{suc, ◌+◌}
use mathlib.Core.Path.{◌≡◌}
use native.Mathlib.Omega.{arith}
use Rattle.model_sheet.specs.Numbers.{half_bytes}
use Rattle.sheet_writer.proofs.put_half.Goals as goal

pub returns : goal.returns
unfolding half_bytes
returns c =
    let e : c.args.at + 1 ≡ suc c.args.at = omega arith in
    rw e
