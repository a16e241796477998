use mathlib.Core.Bool.{not}
use mathlib.Core.Path.{◌≡◌, sym, ◌∙◌, ap}
use native.Mathlib.Omega.{arith}
use Rattle.model.specs.Pairs.{member}
use Rattle.geometry.specs.Parts.{offset_at}
use Rattle.windows.proofs.OffsetLaws.{front_offset, any_on, any_here, any_end}
use Rattle.pair_windows.specs.Unions.{both_from_on}
use Rattle.pair_windows.proofs.exceeds.Goals as goal
use Rattle.pair_windows.proofs.exceeds.Goals.{After-occurs_in_either}

-- What the test says of reference k.
tested : (c : After-occurs_in_either) →
    not (member (both_from_on c.args.dims c.args.first.now c.args.second.now 0) (offset_at c.args.dims c.args.chain.now.offsets c.loop-k.k)) ≡ not c.occurs_in_either.result
tested c =
    let e = front_offset c.args.chain.now.offsets c.loop-k.k c.args.dims _ c.offset_of-o.ensures (omega arith) (omega arith) in
    ap not (ap (member (both_from_on c.args.dims c.args.first.now c.args.second.now 0)) (sym e) ∙ sym c.occurs_in_either.ensures)

pub returns-then-not-occurs_in_either : goal.returns-then-not-occurs_in_either
returns-then-not-occurs_in_either c =
    any_here (offset_at c.args.dims c.args.chain.now.offsets) c.loop-k.k c.args.chain.now.count (λ o. not (member (both_from_on c.args.dims c.args.first.now c.args.second.now 0) o)) (omega arith)
    (tested (goal.at.returns-then-not-occurs_in_either c).After-occurs_in_either ∙ ap not c.if-not-occurs_in_either.true) ∙ c.loop-k.invariant

pub loop-k-preserved : goal.loop-k-preserved
loop-k-preserved c =
    any_on (offset_at c.args.dims c.args.chain.now.offsets) c.loop-k.k c.args.chain.now.count (λ o. not (member (both_from_on c.args.dims c.args.first.now c.args.second.now 0) o)) (omega arith)
    (tested (goal.at.loop-k-preserved c).After-occurs_in_either ∙ ap not c.if-not-occurs_in_either.false) ∙ c.loop-k.invariant

pub returns : goal.returns
returns c =
    any_end (offset_at c.args.dims c.args.chain.now.offsets) c.loop-k.k c.args.chain.now.count (λ o. not (member (both_from_on c.args.dims c.args.first.now c.args.second.now 0) o)) (omega arith)
    ∙ c.loop-k.invariant
