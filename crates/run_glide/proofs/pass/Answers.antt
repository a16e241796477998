use Prim.Native.Nat.{◌-◌, ◌<◌}
use native.Mathlib.Omega.{arith}
use lib.ListN.{length, get_or}
use Rattle.loop_laws.specs.Passes.{InStore}
use Rattle.loop_laws.proofs.PassLaws.{passing_start, passing_again, passing_end, put_within, get_within, one_table, two_tables, passed_one, passed_two}
use Rattle.run_glide.proofs.pass.Goals as goal
use Rattle.run_glide.proofs.pass.Goals.{At-loop-k, In-loop-k}

-- the places that the loop starts from
there : (a : At-loop-k) → InStore (a.args.n - 1) a.args.puts.now a.args.gets.now a.args.store.now
there a = two_tables _ _ _ _ _ a.if-full.false a.requires.in_store

-- the two places lie in the store
within : (i : In-loop-k) → (get_or i.loop-k.puts i.loop-k.k 0 < length i.loop-k.store) × (get_or i.loop-k.gets i.loop-k.k 0 < length i.loop-k.store)
within i =
    let q = two_tables _ _ _ _ _ i.if-full.false i.requires.in_store in
    (put_within _ _ _ _ _ _ _ _ _ _ _ _ _ _ i.loop-k.invariant q i.loop-k-test.true, get_within _ _ _ _ _ _ _ _ _ _ _ _ _ _ i.loop-k.invariant q i.loop-k-test.true)

pub exchange-requires : goal.exchange-requires
exchange-requires c =
    record { n_nonzero = c.requires.n_nonzero; in_store = one_table _ _ _ _ _ c.if-full.true c.requires.in_store }

pub returns-then-full : goal.returns-then-full
returns-then-full c =
    passed_one _ _ _ _ _ _ _ _ _ _ _ _ _ c.if-full.true c.exchange.ensures

pub loop-k-init : goal.loop-k-init
loop-k-init c = passing_start _ _ _ _ _ _ _ _

pub offset_bounds-store-g : goal.offset_bounds-store-g
offset_bounds-store-g c = omega (arith, within (goal.at.offset_bounds-store-g c).In-loop-k)

pub bounds-store-g : goal.bounds-store-g
bounds-store-g c = (within (goal.at.bounds-store-g c).In-loop-k).1

pub offset_bounds-store-u : goal.offset_bounds-store-u
offset_bounds-store-u c = omega (arith, within (goal.at.offset_bounds-store-u c).In-loop-k)

pub bounds-store-u : goal.bounds-store-u
bounds-store-u c = (within (goal.at.bounds-store-u c).In-loop-k).0

pub next_place-requires : goal.next_place-requires
next_place-requires c = omega (arith, within (goal.at.next_place-requires c).In-loop-k)

pub next_place-requires-in-loop-k : goal.next_place-requires-in-loop-k
next_place-requires-in-loop-k c = omega (arith, within (goal.at.next_place-requires-in-loop-k c).In-loop-k)

pub loop-k-preserved : goal.loop-k-preserved
loop-k-preserved c =
    let q = there (goal.at.loop-k-preserved c).At-loop-k in
    passing_again _ _ _ _ _ _ _ _ _ _ _ _ _ _ c.loop-k.invariant _ _ c.loop-k-test.true q.puts_there q.gets_there c.next_place.ensures c.next_place-in-loop-k.ensures

pub returns : goal.returns
returns c =
    passed_two _ _ _ _ _ _ _ _ _ _ _ _ _ c.if-full.false
    (passing_end _ _ _ _ _ _ _ _ _ _ _ _ _ _ c.loop-k.invariant (omega (arith, c.loop-k.invariant.range)))
