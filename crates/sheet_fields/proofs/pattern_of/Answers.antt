use Prim.Native.Nat.{◌<◌}
use Prim.{tt}
use mathlib.Core.Path.{◌≡◌, ◌∙◌}
use native.Mathlib.Nat.{lt_of_lt_of_le}
use lib.Dec.{lit≤}
use lib.Signed.{mag}
use mir.Facts.{to_z-of_z, sfits_widen}
use mir.Syntax.{w16, w32}
use mir.Val.{to_z, of_z}
use Rattle.sheet_fields.proofs.EntryLaws.{sum_raised, raised_small, raised_pattern}
use Rattle.sheet_fields.proofs.pattern_of.Goals as goal
use Rattle.sheet_fields.proofs.pattern_of.Goals.{Start}

pub overflow_cast-above : goal.overflow_cast-above
overflow_cast-above c = rw (to_z-of_z c.ranges.e) (sfits_widen tt c.ranges.e)

small : (c : Start) → mag c.args.e < 32768
small c = c.ranges.e.sfits

the-entry : (c : Start) → to_z w32 (of_z w32 (to_z w16 (of_z w16 c.args.e))) ≡ c.args.e
the-entry c = to_z-of_z (overflow_cast-above c) ∙ to_z-of_z c.ranges.e

pub overflow_add-above : goal.overflow_add-above
overflow_add-above c = rw (the-entry c, sum_raised c.args.e (small c)) (record { sfits = lt_of_lt_of_le (raised_small c.args.e (small c)) (lit≤ tt) })

pub overflow_cast-result : goal.overflow_cast-result
overflow_cast-result c =
    rw (to_z-of_z (overflow_add-above c), the-entry c, sum_raised c.args.e (small c))
    (tt, record { fits = lt_of_lt_of_le (raised_small c.args.e (small c)) (lit≤ tt) })

pub returns : goal.returns
returns c = rw (to_z-of_z (overflow_add-above c), the-entry c, sum_raised c.args.e (small c)) (raised_pattern c.args.e (small c))
