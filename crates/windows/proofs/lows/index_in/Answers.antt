use Prim.{tt}
use mathlib.Core.Path.{◌≡◌, sym, ◌∙◌, ap, ap₂}
use native.Mathlib.Omega.{arith}
use lib.IntN.{ℤ, pos, ◌+ℤ◌}
use lib.Signed.{lt_z, le_z}
use mir.Syntax.{w16, w32, w64}
use mir.Val.{to_z, of_z, SFits}
use mir.Facts.{to_z-of_z, sfits_widen}
use Rattle.windows.specs.Lows.{index_in}
use Rattle.windows.proofs.IndexLaws.{small_sum, index_before, index_past, index_there, index_small}
use Rattle.windows.proofs.lows.index_in.Goals as goal
use Rattle.windows.proofs.lows.index_in.Goals.{Else-extent-x, Start}

pub overflow_cast-x : goal.overflow_cast-x
overflow_cast-x c = rw (to_z-of_z c.ranges.index) (sfits_widen tt c.ranges.index)

pub overflow_cast-x-2 : goal.overflow_cast-x-2
overflow_cast-x-2 c = rw (to_z-of_z c.ranges.low) (sfits_widen tt c.ranges.low)

-- The two in 64 bits, and their sum.
module _ (c : Start) where
  abbrev sum : ℤ
  sum = to_z w64 (of_z w64 (to_z w32 (of_z w32 c.args.index))) +ℤ to_z w64 (of_z w64 (to_z w16 (of_z w16 c.args.low)))

  sum_is : sum ≡ c.args.index +ℤ c.args.low
  sum_is = ap₂ ◌+ℤ◌ (to_z-of_z (overflow_cast-x c) ∙ to_z-of_z c.ranges.index) (to_z-of_z (overflow_cast-x-2 c) ∙ to_z-of_z c.ranges.low)

  fits : SFits w64 sum
  fits = rw sum_is (record { sfits = small_sum c.args.index c.args.low c.ranges.index.sfits c.ranges.low.sfits })

  back : to_z w64 (of_z w64 sum) ≡ c.args.index +ℤ c.args.low
  back = to_z-of_z fits ∙ sum_is

  extent-back : to_z w64 (of_z w64 (pos c.args.extent)) ≡ pos c.args.extent
  extent-back = to_z-of_z {w = w64} {z = pos c.args.extent} (record { sfits = omega (arith, c.ranges.extent.fits) })

pub overflow_add-x : goal.overflow_add-x
overflow_add-x c = fits c

pub returns-then-x-lt0 : goal.returns-then-x-lt0
returns-then-x-lt0 c = index_before c.args.index c.args.low c.args.extent (sym (ap (λ (z : ℤ). lt_z z (pos 0)) (back c.before)) ∙ c.if-x-lt0.true)

pub returns-then-extent-x : goal.returns-then-extent-x
returns-then-extent-x c =
    index_past c.args.index c.args.low c.args.extent (sym (ap (λ (z : ℤ). lt_z z (pos 0)) (back c.before.before)) ∙ c.if-x-lt0.false) (sym (ap₂ le_z (extent-back c.before.before) (back c.before.before)) ∙ c.if-extent-x.true)

there : (c : Else-extent-x) → to_z w64 (of_z w64 (sum c.before.before)) ≡ pos (index_in c.args.index c.args.low c.args.extent)
there c =
    back c.before.before ∙ index_there c.args.index c.args.low c.args.extent (sym (ap (λ (z : ℤ). lt_z z (pos 0)) (back c.before.before)) ∙ c.if-x-lt0.false) (sym (ap₂ le_z (extent-back c.before.before) (back c.before.before)) ∙ c.if-extent-x.false)

pub overflow_cast-result : goal.overflow_cast-result
overflow_cast-result c = rw (there c) (tt, record { fits = omega (arith, index_small c.args.index c.args.low c.args.extent, c.ranges.extent.fits) })

pub returns : goal.returns
returns c = rw (there c)
