use Prim.Native.Nat.{◌-◌}
use mathlib.Core.Path.{◌∙◌, ap}
use native.Mathlib.Omega.{arith}
use lib.IntN.{pos}
use lib.ListN.{get_or}
use Rattle.model.specs.Geometry.{extent}
use Rattle.geometry.specs.Parts.{number_at, entries_in}
use Rattle.geometry.proofs.FillLaws.{filled_more}
use Rattle.shape.proofs.ShapeLaws.{extent_is}
use Rattle.windows.specs.Lows.{span_in}
use Rattle.geometry.proofs.EntryLaws.{entry_back}
use Rattle.shape.proofs.extents_of.Goals as goal

pub loop-d-preserved : goal.loop-d-preserved
loop-d-preserved c =
    let d = c.loop-d.d in
    let low = get_or c.args.lows.now d (pos 0) in
    let span = c.span_in-span.ensures ∙ ap (span_in c.args.count c.args.offsets.now d) (entry_back low c.low-1.given) in
    let is-low = c.requires.2.done d (omega arith) in
    filled_more 4 0 (λ i. extent (number_at c.args.sizes.now i) (entries_in c.args.count c.args.offsets.now i)) d c.loop-d.extents _ (omega arith)
    (c.saturating_sub.ensures ∙ ap (◌-◌ (number_at c.args.sizes.now d)) span ∙ extent_is (number_at c.args.sizes.now d) c.args.count c.args.offsets.now d low (omega arith) (omega arith) is-low)
    c.loop-d.invariant
