use mathlib.Core.Path.{◌≡◌, refl, sym, ◌∙◌, ap₂}
use native.Mathlib.Omega.{arith}
use Rattle.model.specs.Vectors.{equal}
use Rattle.geometry.specs.Parts.{offset_at}
use Rattle.windows.proofs.OffsetLaws.{front_offset, any_on, any_here, any_end}
use Rattle.windows.proofs.occurs_later.Goals as goal
use Rattle.windows.proofs.occurs_later.Goals.{After-same_offset}

pub loop-j-init : goal.loop-j-init
loop-j-init c = refl

-- What the test compares.
tested : (c : After-same_offset) →
    c.same_offset.result ≡ equal (offset_at c.args.dims c.args.offsets.now c.args.k) (offset_at c.args.dims c.args.offsets.now c.loop-j.j)
tested c =
    c.same_offset.ensures
    ∙ ap₂ equal (front_offset c.args.offsets.now c.args.k c.args.dims _ c.offset_of-o.ensures (omega arith) (omega arith))
    (front_offset c.args.offsets.now c.loop-j.j c.args.dims _ c.offset_of-p.ensures (omega arith) (omega arith))

pub returns-then-same_offset : goal.returns-then-same_offset
returns-then-same_offset c =
    any_here (offset_at c.args.dims c.args.offsets.now) c.loop-j.j c.args.count (equal (offset_at c.args.dims c.args.offsets.now c.args.k)) (omega arith)
    (sym (tested (goal.at.returns-then-same_offset c).After-same_offset) ∙ c.if-same_offset.true) ∙ c.loop-j.invariant

pub loop-j-preserved : goal.loop-j-preserved
loop-j-preserved c =
    any_on (offset_at c.args.dims c.args.offsets.now) c.loop-j.j c.args.count (equal (offset_at c.args.dims c.args.offsets.now c.args.k)) (omega arith)
    (sym (tested (goal.at.loop-j-preserved c).After-same_offset) ∙ c.if-same_offset.false) ∙ c.loop-j.invariant

pub returns : goal.returns
returns c =
    any_end (offset_at c.args.dims c.args.offsets.now) c.loop-j.j c.args.count (equal (offset_at c.args.dims c.args.offsets.now c.args.k)) (omega arith) ∙ c.loop-j.invariant
