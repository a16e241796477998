use borrow.Author.Rules.{rules}
use mathlib.Core.Path.{◌∙◌, ap₂}
use native.Mathlib.Omega.{arith}
use Rattle.model.specs.Vectors.{equal}
use Rattle.geometry.proofs.PartLaws.{part_all}
use Rattle.geometry.proofs.EntryLaws.{same_bits, other_bits}
use Rattle.windows.proofs.OffsetLaws.{equal_on, equal_not, equal_end, past_four}
use Rattle.windows.proofs.same_offset.Invariants.{at}
use Rattle.windows.proofs.same_offset.Goals as goal

pub loop-d-init : goal.loop-d-init
loop-d-init c = ap₂ equal (part_all (at c.args.a) c.args.dims) (part_all (at c.args.b) c.args.dims)

pub returns-then-a-d : goal.returns-then-a-d
returns-then-a-d c =
    equal_not (at c.args.a) (at c.args.b) c.loop-d.d c.args.dims (omega arith) (other_bits _ _ c.if-a-d.true) ∙ c.loop-d.invariant

pub loop-d-preserved : goal.loop-d-preserved
loop-d-preserved c =
    let x = at c.args.a c.loop-d.d in
    let y = at c.args.b c.loop-d.d in
    equal_on (at c.args.a) (at c.args.b) c.loop-d.d c.args.dims (omega arith)
    (same_bits x y (search rules) (search rules) c.if-a-d.false) ∙ c.loop-d.invariant

pub returns : goal.returns
returns c =
    equal_end (at c.args.a) (at c.args.b) c.loop-d.d c.args.dims (past_four c.args.a c.args.b c.args.dims c.loop-d.d (omega arith) (omega arith) (omega arith))
    ∙ c.loop-d.invariant
