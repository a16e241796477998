use mathlib.Core.Path.{◌∙◌}
use native.Mathlib.Omega.{arith}
use Rattle.model.specs.Lists.{tabulate}
use Rattle.model.specs.Steps.{which_of}
use Rattle.geometry.specs.Parts.{offset_at}
use Rattle.geometry.proofs.FillLaws.{filled_none, filled_more, filled_up_to}
use Rattle.windows.proofs.OffsetLaws.{front_offset}
use Rattle.pair_tables.proofs.TableLaws.{held_all, place_or}
use Rattle.pair_tables.proofs.held_in.Goals as goal

pub loop-k-init : goal.loop-k-init
loop-k-init c =
    filled_none 32 0 (λ i. which_of (tabulate c.args.chain.now.count (offset_at c.args.dims c.args.chain.now.offsets)) (offset_at c.args.dims c.args.own.now.offsets i))

pub loop-k-preserved : goal.loop-k-preserved
loop-k-preserved c =
    let os = tabulate c.args.chain.now.count (offset_at c.args.dims c.args.chain.now.offsets) in
    let e = front_offset c.args.own.now.offsets c.loop-k.k c.args.dims _ c.offset_of-o.ensures (omega arith) (omega arith) in
    filled_more 32 0 (λ i. which_of os (offset_at c.args.dims c.args.own.now.offsets i)) c.loop-k.k c.loop-k.filters _ (omega arith) (c.unwrap_or.ensures ∙ rw (c.which.ensures, e) (place_or c.args.chain.now.count (offset_at c.args.dims c.args.chain.now.offsets) _)) c.loop-k.invariant

pub returns : goal.returns
returns c =
    let os = tabulate c.args.chain.now.count (offset_at c.args.dims c.args.chain.now.offsets) in
    let f = offset_at c.args.dims c.args.own.now.offsets in
    held_all os f c.args.own.now.count c.loop-k.filters (filled_up_to 32 0 (λ i. which_of os (f i)) c.loop-k.k c.args.own.now.count c.loop-k.filters (omega arith) c.loop-k.invariant)
