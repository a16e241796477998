use mathlib.Core.Path.{◌≡◌, ◌∙◌, ap}
use native.Mathlib.Omega.{arith}
use Rattle.std.specs.Prelude.{Some}
use Rattle.model.specs.Lists.{tabulate}
use Rattle.geometry.specs.Parts.{offset_at}
use Rattle.windows.proofs.OffsetLaws.{front_offset}
use Rattle.pair_tables.specs.Tables.{place_in}
use Rattle.pair_tables.proofs.TableLaws.{place_member, place_is, no_place, entered_none, entered_skip, entered_more, entered_all}
use Rattle.pair_tables.proofs.chain_order_in.Goals as goal
use Rattle.pair_tables.proofs.chain_order_in.Goals.{After-which}

pub loop-k-init : goal.loop-k-init
loop-k-init c =
    (omega arith, entered_none (tabulate c.args.own.now.count (offset_at c.args.dims c.args.own.now.offsets)) (offset_at c.args.dims c.args.chain.now.offsets) c.args.chain.now.count)

-- What is found for reference k.
found : (c : After-which) →
    c.which.result ≡ place_in (tabulate c.args.own.now.count (offset_at c.args.dims c.args.own.now.offsets)) (offset_at c.args.dims c.args.chain.now.offsets c.loop-k.k)
found c =
    c.which.ensures
    ∙ ap (place_in (tabulate c.args.own.now.count (offset_at c.args.dims c.args.own.now.offsets))) (front_offset c.args.chain.now.offsets c.loop-k.k c.args.dims _ c.offset_of-o.ensures (omega arith) (omega arith))

pub loop-k-preserved-in_default : goal.loop-k-preserved-in_default
loop-k-preserved-in_default c =
    let os = tabulate c.args.own.now.count (offset_at c.args.dims c.args.own.now.offsets) in
    let f = offset_at c.args.dims c.args.chain.now.offsets in
    let e = found (goal.at.loop-k-preserved-in_default c).After-which in (
      omega arith,
      entered_skip os f c.loop-k.k c.args.chain.now.count c.loop-k.count c.loop-k.filters c.loop-k.invariant.1 (omega arith)
          (no_place os (f c.loop-k.k) (cc)),
    )

pub loop-k-preserved : goal.loop-k-preserved
loop-k-preserved c =
    let os = tabulate c.args.own.now.count (offset_at c.args.dims c.args.own.now.offsets) in
    let f = offset_at c.args.dims c.args.chain.now.offsets in
    let d = found (goal.at.loop-k-preserved c).After-which in
    let e : Some c.in-Some.j ≡ place_in os (f c.loop-k.k) = cc in (
      omega arith,
      entered_more os f c.loop-k.k c.args.chain.now.count c.loop-k.count c.loop-k.filters c.loop-k.invariant.1 (omega arith) c.in-Some.j (place_is os (f c.loop-k.k) c.in-Some.j e)
          (place_member os (f c.loop-k.k) c.in-Some.j e) (omega arith),
    )

pub returns : goal.returns
returns c =
    entered_all (tabulate c.args.own.now.count (offset_at c.args.dims c.args.own.now.offsets)) (offset_at c.args.dims c.args.chain.now.offsets) c.loop-k.k c.args.chain.now.count c.loop-k.count c.loop-k.filters c.loop-k.invariant.1 (omega arith)
