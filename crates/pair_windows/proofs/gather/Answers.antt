use Prim.Native.Nat.{◌+◌}
use mathlib.Core.Path.{◌≡◌, sym, ◌∙◌, ap, subst}
use native.Mathlib.Omega.{arith}
use Rattle.model.specs.Pairs.{member}
use Rattle.geometry.specs.Parts.{part}
use Rattle.windows.specs.Offsets.{front}
use Rattle.pair_windows.specs.Unions.{both_from_on, offsets_in, Appended}
use Rattle.pair_windows.proofs.UnionLaws.{front_joined, gather_none, gather_skip, gather_more, gather_all}
use Rattle.pair_windows.proofs.gather.Goals as goal
use Rattle.pair_windows.proofs.gather.Goals.{After-occurs_in_either, After-offset_in-o}

pub loop-i-init : goal.loop-i-init
loop-i-init c =
    (omega arith, gather_none (both_from_on c.args.dims c.args.first.now c.args.second.now 0))

-- The offset that is looked for.
read : (c : After-offset_in-o) →
    front c.args.dims c.offset_in-o.result ≡ offsets_in c.args.dims c.args.first.now.count c.args.first.now.offsets c.args.second.now.offsets c.loop-i.i
read c =
    front_joined c.args.dims c.args.first.now.count c.args.second.now.count c.args.first.now.offsets c.args.second.now.offsets (omega arith) (omega arith) (omega arith) c.loop-i.i _ (omega arith) c.offset_in-o.ensures

-- What the test says of it.
tested : (c : After-occurs_in_either) →
    let f = offsets_in c.args.dims c.args.first.now.count c.args.first.now.offsets c.args.second.now.offsets in
    member (part f (c.loop-i.i + 1) (c.args.first.now.count + c.args.second.now.count)) (f c.loop-i.i) ≡ c.occurs_in_either.result
tested c =
    let f = offsets_in c.args.dims c.args.first.now.count c.args.first.now.offsets c.args.second.now.offsets in
    ap (member (part f (c.loop-i.i + 1) (c.args.first.now.count + c.args.second.now.count))) (sym (read c.before)) ∙ sym c.occurs_in_either.ensures

pub loop-i-preserved-then-occurs_in_either : goal.loop-i-preserved-then-occurs_in_either
loop-i-preserved-then-occurs_in_either c =
    let f = offsets_in c.args.dims c.args.first.now.count c.args.first.now.offsets c.args.second.now.offsets in (
      omega arith,
      gather_skip f c.loop-i.i (c.args.first.now.count + c.args.second.now.count) c.loop-i.count c.loop-i.offsets c.loop-i.invariant.1 (omega arith) (tested (goal.at.loop-i-preserved-then-occurs_in_either c).After-occurs_in_either ∙ c.if-occurs_in_either.true),
    )

pub loop-i-preserved : goal.loop-i-preserved
loop-i-preserved c =
    let f = offsets_in c.args.dims c.args.first.now.count c.args.first.now.offsets c.args.second.now.offsets in (
      omega arith,
      gather_more f c.loop-i.i (c.args.first.now.count + c.args.second.now.count) c.loop-i.count c.loop-i.offsets c.loop-i.invariant.1 (omega arith) c.append.new.to (tested (goal.at.loop-i-preserved c).After-occurs_in_either ∙ c.if-occurs_in_either.false)
          (subst (Appended c.append.new.to c.loop-i.offsets c.loop-i.count) (read (goal.at.loop-i-preserved c).After-offset_in-o) c.append.ensures),
    )

pub returns : goal.returns
returns c =
    gather_all (offsets_in c.args.dims c.args.first.now.count c.args.first.now.offsets c.args.second.now.offsets) c.loop-i.i (c.args.first.now.count + c.args.second.now.count) c.loop-i.count c.loop-i.offsets c.loop-i.invariant.1 (omega arith)
