use Prim.Native.Nat.{◌<◌}
use native.Mathlib.Omega.{arith}
use lib.ListN.{length, get_or}
use Rattle.loop_laws.proofs.PassLaws.{passing_start, passing_again, passing_end, put_within}
use Rattle.run_glide.proofs.exchange.Goals as goal
use Rattle.run_glide.proofs.exchange.Goals.{In-loop-k}

-- the place lies in the store
within : (i : In-loop-k) → get_or i.loop-k.puts i.loop-k.k 0 < length i.loop-k.store
within i =
    put_within _ _ _ _ _ _ _ _ _ _ _ _ _ _ i.loop-k.invariant i.requires.in_store i.loop-k-test.true

pub loop-k-init : goal.loop-k-init
loop-k-init c = passing_start _ _ _ _ _ _ _ _

pub offset_bounds-store-u : goal.offset_bounds-store-u
offset_bounds-store-u c = omega (arith, within (goal.at.offset_bounds-store-u c).In-loop-k)

pub bounds-store-u : goal.bounds-store-u
bounds-store-u c = within (goal.at.bounds-store-u c).In-loop-k

pub offset_bounds-store-u-in-loop-k : goal.offset_bounds-store-u-in-loop-k
offset_bounds-store-u-in-loop-k c = omega (arith, within (goal.at.offset_bounds-store-u-in-loop-k c).In-loop-k)

pub bounds-store-u-in-loop-k : goal.bounds-store-u-in-loop-k
bounds-store-u-in-loop-k c = within (goal.at.bounds-store-u-in-loop-k c).In-loop-k

pub next_place-requires : goal.next_place-requires
next_place-requires c = omega (arith, within (goal.at.next_place-requires c).In-loop-k)

pub loop-k-preserved : goal.loop-k-preserved
loop-k-preserved c =
    let q = c.requires.in_store in
    passing_again _ _ _ _ _ _ _ _ _ _ _ _ _ _ c.loop-k.invariant _ _ c.loop-k-test.true q.puts_there q.puts_there c.next_place.ensures c.next_place.ensures

pub returns : goal.returns
returns c = passing_end _ _ _ _ _ _ _ _ _ _ _ _ _ _ c.loop-k.invariant (omega (arith, c.loop-k.invariant.range))
