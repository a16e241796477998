use Prim.Native.Nat.{◌+◌, ◌*◌}
use mathlib.Core.Path.{◌≡◌}
use native.Mathlib.Omega.{arith}
use Rattle.model_sheet.specs.Frames.{padded}
use Rattle.model_sheet.specs.Numbers.{half_bytes}
use Rattle.sheet_laws.specs.Sections.{offset_row}
use Rattle.sheet_writer.proofs.offset_row.Goals as goal

pub returns : goal.returns
unfolding padded offset_row half_bytes
returns c =
    let k = c.args.k in
    let z : 4 * k + 0 ≡ 4 * k = omega arith in
    rw (
      z,
      c.put_half.ensures,
      c.put_half-c.ensures,
      c.put_half-b.ensures,
      c.put_half-a.ensures,
      c.pattern_at-4.ensures,
      c.pattern_at-3.ensures,
      c.pattern_at-2.ensures,
      c.pattern_at.ensures,
    )
