use Prim.{tt}
use Prim.Native.Nat.{◌<◌}
use mathlib.Core.Path.{◌≡◌, ap, ◌∙◌}
use native.Mathlib.Nat.{lt_of_lt_of_le}
use lib.Dec.{lit≤}
use lib.IntN.{pos, ◌-ℤ◌}
use mir.Facts.{to_z-of_z, to_z_pos, sfits_widen}
use mir.Syntax.{w32, w64}
use mir.Val.{SFits, to_z}
use Rattle.model_sheet.specs.Numbers.{signed_word}
use Rattle.sheet_fields.proofs.EntryLaws.{signed_word_low, signed_word_high, signed_word_small}
use Rattle.sheet_fields.proofs.index.Goals as goal
use Rattle.sheet_fields.proofs.index.Goals.{Else-w-lt2147483648}

pub returns-then-w-lt2147483648 : goal.returns-then-w-lt2147483648
returns-then-w-lt2147483648 c = to_z_pos w32 {n = c.args.w} c.if-w-lt2147483648.true ∙ signed_word_low _ c.if-w-lt2147483648.true

-- The difference is the index, which fits.
difference : (c : Else-w-lt2147483648) → to_z w64 c.args.w -ℤ pos 4294967296 ≡ signed_word c.args.w
difference c =
    let w = c.args.w in
    let h : w < 4294967296 = c.ranges.w.fits in
    ap (λ z. z -ℤ pos 4294967296) (to_z_pos w64 {n = w} (lt_of_lt_of_le h (lit≤ tt))) ∙ signed_word_high w c.if-w-lt2147483648.false h

index-fits : (c : Else-w-lt2147483648) → SFits w32 (signed_word c.args.w)
index-fits c = record { sfits = signed_word_small c.args.w c.if-w-lt2147483648.false c.ranges.w.fits }

pub overflow_sub-result : goal.overflow_sub-result
overflow_sub-result c = rw (difference c) (sfits_widen tt (index-fits c))

pub overflow_cast-result-3 : goal.overflow_cast-result-3
overflow_cast-result-3 c = rw (to_z-of_z (overflow_sub-result c), difference c) (index-fits c)

pub returns : goal.returns
returns c = rw (to_z-of_z (overflow_sub-result c), difference c) (to_z-of_z (index-fits c))
