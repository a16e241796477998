use Prim.Native.Nat.{◌<◌}
use Prim.{tt}
use mathlib.Core.Path.{◌≡◌, ◌∙◌}
use native.Mathlib.Nat.{lt_of_lt_of_le}
use lib.Dec.{lit≤}
use lib.Signed.{mag}
use mir.Facts.{to_z-of_z, sfits_widen}
use mir.Syntax.{w32, w64}
use mir.Val.{to_z, of_z}
use Rattle.sheet_fields.proofs.EntryLaws.{sum_lifted, lifted_small, lifted_pattern}
use Rattle.sheet_fields.proofs.word_pattern_of.Goals as goal
use Rattle.sheet_fields.proofs.word_pattern_of.Goals.{Start}

pub overflow_cast-above : goal.overflow_cast-above
overflow_cast-above c = rw (to_z-of_z c.ranges.e) (sfits_widen tt c.ranges.e)

small : (c : Start) → mag c.args.e < 2147483648
small c = c.ranges.e.sfits

the-index : (c : Start) → to_z w64 (of_z w64 (to_z w32 (of_z w32 c.args.e))) ≡ c.args.e
the-index c = to_z-of_z (overflow_cast-above c) ∙ to_z-of_z c.ranges.e

pub overflow_add-above : goal.overflow_add-above
overflow_add-above c = rw (the-index c, sum_lifted c.args.e (small c)) (record { sfits = lt_of_lt_of_le (lifted_small c.args.e (small c)) (lit≤ tt) })

pub overflow_cast-result : goal.overflow_cast-result
overflow_cast-result c =
    rw (to_z-of_z (overflow_add-above c), the-index c, sum_lifted c.args.e (small c))
    (tt, record { fits = lt_of_lt_of_le (lifted_small c.args.e (small c)) (lit≤ tt) })

pub returns : goal.returns
returns c = rw (to_z-of_z (overflow_add-above c), the-index c, sum_lifted c.args.e (small c)) (lifted_pattern c.args.e (small c))
