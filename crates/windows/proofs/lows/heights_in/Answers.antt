use borrow.Author.Rules.{rules}
use mathlib.Core.Path.{◌∙◌, ap}
use native.Mathlib.Omega.{arith}
use lib.IntN.{ℤ}
use mir.Syntax.{w16}
use mir.Val.{to_z, of_z}
use Rattle.model.specs.Vectors.{above}
use Rattle.geometry.specs.Parts.{entry_at}
use Rattle.geometry.proofs.EntryLaws.{entry_back}
use Rattle.geometry.proofs.FillLaws.{filled_none, filled_more, filled_up_to}
use Rattle.windows.proofs.LowLaws.{heights_many, heights_past, heights_all}
use Rattle.windows.proofs.lows.heights_in.Goals as goal

pub returns-then-count-gt32 : goal.returns-then-count-gt32
returns-then-count-gt32 c = heights_many c.args.count c.args.offsets.now c.args.d c.args.low c.if-count-gt32.true

pub returns-then-d-ge4 : goal.returns-then-d-ge4
returns-then-d-ge4 c = heights_past c.args.count c.args.offsets.now c.args.d c.args.low c.if-d-ge4.true

pub loop-k-init : goal.loop-k-init
loop-k-init c = filled_none 32 0 (λ i. above (entry_at c.args.offsets.now i c.args.d) (to_z w16 (of_z w16 c.args.low)))

pub loop-k-preserved : goal.loop-k-preserved
loop-k-preserved c =
    filled_more 32 0 (λ i. above (entry_at c.args.offsets.now i c.args.d) (to_z w16 (of_z w16 c.args.low))) c.loop-k.k c.loop-k.r _ (omega arith)
    (c.height.ensures ∙ ap (λ (z : ℤ). above z (to_z w16 (of_z w16 c.args.low))) (entry_back (entry_at c.args.offsets.now c.loop-k.k c.args.d) (search rules)))
    c.loop-k.invariant

pub returns : goal.returns
returns c =
    heights_all c.args.count c.args.offsets.now c.args.d c.args.low c.loop-k.r (omega arith) (omega arith)
    (rw (entry_back c.args.low c.ranges.low.sfits) at (filled_up_to 32 0 (λ i. above (entry_at c.args.offsets.now i c.args.d) (to_z w16 (of_z w16 c.args.low))) c.loop-k.k c.args.count c.loop-k.r
    (omega arith) c.loop-k.invariant))
