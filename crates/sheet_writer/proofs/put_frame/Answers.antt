use Prim.Native.Nat.{ℕ, ◌+◌, ◌*◌}
use mathlib.Core.Path.{◌≡◌, ap, ◌∙◌}
use native.Mathlib.Nat.{add-zero}
use native.Mathlib.Omega.{arith}
use lib.ListN.{set}
use Rattle.sheet_writer.proofs.LayLaws.{frame_on, frame_end}
use Rattle.sheet_writer.proofs.put_frame.Goals as goal

pub loop-i-init : goal.loop-i-init
loop-i-init c = rw add-zero

pub loop-i-preserved : goal.loop-i-preserved
loop-i-preserved c =
    let a = c.args in
    let e : a.at + 2 * (c.loop-i.i + 1) ≡ a.at + 2 * c.loop-i.i + 2 = omega arith in
    rw (e, c.low_digit.ensures, c.high_digit.ensures)
    (frame_on a.x c.loop-i.out a.len (a.at + 2 * c.loop-i.i) c.loop-i.i (omega arith) c.loop-i-test.true)
    ∙ c.loop-i.invariant

pub returns : goal.returns
returns c =
    let a = c.args in
    let e : a.at + 2 * a.len ≡ a.at + 2 * c.loop-i.i = omega arith in (
      omega arith,
      ap (λ (p : ℕ). set c.loop-i.out p 10) e
          ∙ frame_end a.x c.loop-i.out a.len (a.at + 2 * c.loop-i.i) c.loop-i.i (omega arith) c.loop-i-test.false
          ∙ c.loop-i.invariant,
    )
