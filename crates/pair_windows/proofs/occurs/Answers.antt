use mathlib.Core.Path.{◌≡◌, sym, ◌∙◌, ap}
use native.Mathlib.Omega.{arith}
use Rattle.model.specs.Vectors.{equal}
use Rattle.model.specs.Pairs.{member}
use Rattle.geometry.specs.Parts.{offset_at}
use Rattle.windows.specs.Offsets.{front}
use Rattle.windows.proofs.OffsetLaws.{front_offset, any_on, any_here, any_end}
use Rattle.pair_windows.proofs.occurs.Goals as goal
use Rattle.pair_windows.proofs.occurs.Goals.{After-same_offset}

-- What the test compares.
tested : (c : After-same_offset) →
    c.same_offset.result ≡ equal (front c.args.dims c.args.o) (offset_at c.args.dims c.args.window.now.offsets c.loop-j.j)
tested c =
    c.same_offset.ensures
    ∙ ap (equal (front c.args.dims c.args.o)) (front_offset c.args.window.now.offsets c.loop-j.j c.args.dims _ c.offset_of-p.ensures (omega arith) (omega arith))

pub returns-then-same_offset : goal.returns-then-same_offset
unfolding member
returns-then-same_offset c =
    any_here (offset_at c.args.dims c.args.window.now.offsets) c.loop-j.j c.args.window.now.count (equal (front c.args.dims c.args.o)) (omega arith) (sym (tested (goal.at.returns-then-same_offset c).After-same_offset) ∙ c.if-same_offset.true) ∙ c.loop-j.invariant

pub loop-j-preserved : goal.loop-j-preserved
unfolding member
loop-j-preserved c =
    any_on (offset_at c.args.dims c.args.window.now.offsets) c.loop-j.j c.args.window.now.count (equal (front c.args.dims c.args.o)) (omega arith) (sym (tested (goal.at.loop-j-preserved c).After-same_offset) ∙ c.if-same_offset.false) ∙ c.loop-j.invariant

pub returns : goal.returns
unfolding member
returns c =
    any_end (offset_at c.args.dims c.args.window.now.offsets) c.loop-j.j c.args.window.now.count (equal (front c.args.dims c.args.o)) (omega arith) ∙ c.loop-j.invariant
