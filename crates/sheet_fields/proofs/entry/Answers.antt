use Prim.{tt}
use Prim.Native.Nat.{ℕ, ◌≤◌, ◌<◌}
use mathlib.Core.Path.{◌≡◌, ap, ◌∙◌}
use native.Mathlib.Nat.{lt_of_lt_of_le}
use native.Mathlib.Omega.{arith}
use lib.Dec.{lit≤}
use lib.IntN.{pos, ◌-ℤ◌}
use mir.Facts.{to_z-of_z, to_z_pos, sfits_widen}
use mir.Syntax.{w16, w32}
use mir.Val.{SFits, to_z}
use Rattle.model_sheet.specs.Numbers.{signed}
use Rattle.sheet_fields.proofs.EntryLaws.{signed_low, signed_high, signed_small}
use Rattle.sheet_fields.proofs.entry.Goals as goal

pub returns-then-w-lt32768 : goal.returns-then-w-lt32768
returns-then-w-lt32768 c = to_z_pos w16 {n = c.args.w} c.if-w-lt32768.true ∙ signed_low _ c.if-w-lt32768.true

-- The difference is the entry, which fits.
difference : (w : ℕ) → 32768 ≤ w → w < 65536 → to_z w32 w -ℤ pos 65536 ≡ signed w
difference w high h = ap (λ z. z -ℤ pos 65536) (to_z_pos w32 {n = w} (lt_of_lt_of_le h (lit≤ tt))) ∙ signed_high w high h

entry-fits : (w : ℕ) → 32768 ≤ w → w < 65536 → SFits w16 (signed w)
entry-fits w high h = record { sfits = signed_small w high h }

subtracted : (w : ℕ) → 32768 ≤ w → w < 65536 → SFits w32 (to_z w32 w -ℤ pos 65536)
subtracted w high h = rw (difference w high h) (sfits_widen tt (entry-fits w high h))

pub returns : goal.returns
returns c =
    let high : 32768 ≤ c.args.w = omega arith in
    let h : c.args.w < 65536 = c.ranges.w.fits in
    rw (to_z-of_z (subtracted c.args.w high h), difference c.args.w high h) (to_z-of_z (entry-fits c.args.w high h))

pub overflow_sub-result : goal.overflow_sub-result
overflow_sub-result c = subtracted c.args.w c.if-w-lt32768.false c.ranges.w.fits

pub overflow_cast-result-3 : goal.overflow_cast-result-3
overflow_cast-result-3 c =
    rw (to_z-of_z (subtracted c.args.w c.if-w-lt32768.false c.ranges.w.fits), difference c.args.w c.if-w-lt32768.false c.ranges.w.fits)
    (entry-fits c.args.w c.if-w-lt32768.false c.ranges.w.fits)
