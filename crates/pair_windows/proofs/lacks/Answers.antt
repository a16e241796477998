use Prim.Native.Nat.{◌+◌}
use mathlib.Core.Bool.{not}
use mathlib.Core.Path.{◌≡◌, sym, ◌∙◌, ap}
use native.Mathlib.Omega.{arith}
use Rattle.model.specs.Pairs.{member}
use Rattle.windows.proofs.OffsetLaws.{any_on, any_here, any_end}
use Rattle.pair_windows.specs.Unions.{from_on, offsets_in}
use Rattle.pair_windows.proofs.UnionLaws.{front_joined}
use Rattle.pair_windows.proofs.lacks.Goals as goal
use Rattle.pair_windows.proofs.lacks.Goals.{After-occurs}

-- What the test says of reference i.
tested : (c : After-occurs) →
    not (member (from_on c.args.dims c.args.chain.now 0) (offsets_in c.args.dims c.args.first.now.count c.args.first.now.offsets c.args.second.now.offsets c.loop-i.i)) ≡ not c.occurs.result
tested c =
    let e =
    front_joined c.args.dims c.args.first.now.count c.args.second.now.count c.args.first.now.offsets c.args.second.now.offsets (omega arith) (omega arith) (omega arith) c.loop-i.i _ (omega arith) c.offset_in-o.ensures in
    ap not (ap (member (from_on c.args.dims c.args.chain.now 0)) (sym e) ∙ sym c.occurs.ensures)

pub returns-then-not-occurs : goal.returns-then-not-occurs
returns-then-not-occurs c =
    any_here (offsets_in c.args.dims c.args.first.now.count c.args.first.now.offsets c.args.second.now.offsets) c.loop-i.i (c.args.first.now.count + c.args.second.now.count) (λ o. not (member (from_on c.args.dims c.args.chain.now 0) o)) (omega arith)
    (tested (goal.at.returns-then-not-occurs c).After-occurs ∙ ap not c.if-not-occurs.true) ∙ c.loop-i.invariant

pub loop-i-preserved : goal.loop-i-preserved
loop-i-preserved c =
    any_on (offsets_in c.args.dims c.args.first.now.count c.args.first.now.offsets c.args.second.now.offsets) c.loop-i.i (c.args.first.now.count + c.args.second.now.count) (λ o. not (member (from_on c.args.dims c.args.chain.now 0) o)) (omega arith)
    (tested (goal.at.loop-i-preserved c).After-occurs ∙ ap not c.if-not-occurs.false) ∙ c.loop-i.invariant

pub returns : goal.returns
returns c =
    any_end (offsets_in c.args.dims c.args.first.now.count c.args.first.now.offsets c.args.second.now.offsets) c.loop-i.i (c.args.first.now.count + c.args.second.now.count) (λ o. not (member (from_on c.args.dims c.args.chain.now 0) o)) (omega arith)
    ∙ c.loop-i.invariant
