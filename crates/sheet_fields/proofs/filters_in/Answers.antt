use Prim.Native.Nat.{◌+◌, ◌-◌}
use mathlib.Core.Path.{◌≡◌}
use native.Mathlib.Omega.{arith}
use Rattle.sheet_fields.proofs.FieldLaws.{filters_entered}
use Rattle.sheet_fields.proofs.filters_in.Goals as goal

pub returns : goal.returns
returns c =
    let t = c.min-terms.result in
    let e : 1 + t - 1 ≡ t = omega arith in
    filters_entered c.args.n c.args.x t c.min-terms.ensures (omega (arith, c.min-terms.ensures)) _ (rw e at c.copy_from_slice.ensures.after)
