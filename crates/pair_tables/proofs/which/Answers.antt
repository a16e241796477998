use mathlib.Core.Path.{◌≡◌, sym, ◌∙◌, ap}
use native.Mathlib.Nat.{zero-add}
use native.Mathlib.Omega.{arith}
use Rattle.model.specs.Vectors.{equal}
use Rattle.model.specs.Steps.{which_of}
use Rattle.geometry.specs.Parts.{offset_at}
use Rattle.geometry.proofs.PartLaws.{part_all}
use Rattle.windows.specs.Offsets.{front}
use Rattle.windows.proofs.OffsetLaws.{front_offset}
use Rattle.pair_tables.proofs.TableLaws.{which_on, which_here, which_end, place_here, place_none}
use Rattle.pair_tables.proofs.which.Goals as goal
use Rattle.pair_tables.proofs.which.Goals.{After-same_offset}

pub loop-k-init : goal.loop-k-init
loop-k-init c =
    zero-add _ ∙ ap (λ l. which_of l (front c.args.dims c.args.o)) (part_all (offset_at c.args.dims c.args.window.now.offsets) c.args.window.now.count)

-- What the test compares.
tested : (c : After-same_offset) →
    c.same_offset.result ≡ equal (front c.args.dims c.args.o) (offset_at c.args.dims c.args.window.now.offsets c.loop-k.k)
tested c =
    c.same_offset.ensures
    ∙ ap (equal (front c.args.dims c.args.o)) (front_offset c.args.window.now.offsets c.loop-k.k c.args.dims _ c.offset_of-p.ensures (omega arith) (omega arith))

pub returns-then-same_offset : goal.returns-then-same_offset
returns-then-same_offset c =
    let f = offset_at c.args.dims c.args.window.now.offsets in
    let o = front c.args.dims c.args.o in
    let n = c.args.window.now.count in
    place_here f n o c.loop-k.k (which_here f o c.loop-k.k n (omega arith) (sym (tested (goal.at.returns-then-same_offset c).After-same_offset) ∙ c.if-same_offset.true) ∙ c.loop-k.invariant) (omega arith)

pub loop-k-preserved : goal.loop-k-preserved
loop-k-preserved c =
    which_on (offset_at c.args.dims c.args.window.now.offsets) (front c.args.dims c.args.o) c.loop-k.k c.args.window.now.count (omega arith) (sym (tested (goal.at.loop-k-preserved c).After-same_offset) ∙ c.if-same_offset.false) ∙ c.loop-k.invariant

pub returns : goal.returns
returns c =
    let f = offset_at c.args.dims c.args.window.now.offsets in
    let o = front c.args.dims c.args.o in
    let n = c.args.window.now.count in
    place_none f n o c.loop-k.k (which_end f o c.loop-k.k n (omega arith) ∙ c.loop-k.invariant) (omega arith)
