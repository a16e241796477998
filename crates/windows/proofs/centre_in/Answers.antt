use mathlib.Core.Path.{◌≡◌, sym, ◌∙◌, ap}
use native.Mathlib.Omega.{arith}
use native.Mathlib.Nat.{zero-add}
use Rattle.model.specs.Vectors.{is_zero}
use Rattle.model.specs.Windows.{centre_of}
use Rattle.geometry.specs.Parts.{offset_at}
use Rattle.geometry.proofs.PartLaws.{part_all}
use Rattle.windows.proofs.OffsetLaws.{front_offset, zero_offset, centre_on, centre_here, centre_end}
use Rattle.windows.proofs.centre_in.Goals as goal
use Rattle.windows.proofs.centre_in.Goals.{After-same_offset}

pub loop-k-init : goal.loop-k-init
loop-k-init c = zero-add _ ∙ ap centre_of (part_all (offset_at c.args.dims c.args.offsets.now) c.args.count)

-- What the test says of reference k.
tested : (c : After-same_offset) →
    c.same_offset.result ≡ is_zero (offset_at c.args.dims c.args.offsets.now c.loop-k.k)
tested c =
    c.same_offset.ensures ∙ zero_offset c.args.dims c.offset_of-o.result
    ∙ ap is_zero (front_offset c.args.offsets.now c.loop-k.k c.args.dims c.offset_of-o.result c.offset_of-o.ensures (omega arith) (omega arith))

pub returns-then-same_offset : goal.returns-then-same_offset
returns-then-same_offset c =
    centre_here (offset_at c.args.dims c.args.offsets.now) c.loop-k.k c.args.count (omega arith) (sym (tested (goal.at.returns-then-same_offset c).After-same_offset) ∙ c.if-same_offset.true) ∙ c.loop-k.invariant

pub loop-k-preserved : goal.loop-k-preserved
loop-k-preserved c =
    centre_on (offset_at c.args.dims c.args.offsets.now) c.loop-k.k c.args.count (omega arith) (sym (tested (goal.at.loop-k-preserved c).After-same_offset) ∙ c.if-same_offset.false) ∙ c.loop-k.invariant

pub returns : goal.returns
returns c =
    let e : c.args.count ≡ c.loop-k.k = omega arith in
    e ∙ centre_end (offset_at c.args.dims c.args.offsets.now) c.loop-k.k c.args.count c.loop-k-test.false ∙ c.loop-k.invariant
