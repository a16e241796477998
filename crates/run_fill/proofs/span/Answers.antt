use native.Mathlib.Omega.{arith}
use Rattle.loop_laws.proofs.SpanLaws.{spanning_on, spanning_end, in_room}
use Rattle.run_fill.proofs.span.Goals as goal

pub keeps-t-requires : goal.keeps-t-requires
keeps-t-requires c =
    let I = c.requires.n_bound.1 in
    let h = c.loop-k-test.true in
    (I.wanted c.loop-k.k h, omega (arith, c.loop-k.invariant.source_is, I.sourced c.loop-k.k h), omega (arith, c.room_at-b.ensures, in_room _ _ _ _ _ I c.loop-k.k h))

pub loop-k-preserved : goal.loop-k-preserved
loop-k-preserved c =
    spanning_on _ _ _ _ _ _ _ _ _ _ _ _ _ _ c.loop-k.invariant c.loop-k-test.true c.room_at-b.ensures c.room_goes-bg.ensures c.keeps-t.ensures

pub returns : goal.returns
returns c = spanning_end _ _ _ _ _ _ _ _ _ _ _ c.loop-k.invariant c.loop-k-test.false
