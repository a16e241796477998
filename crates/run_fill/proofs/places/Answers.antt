use Prim.Native.Nat.{suc, ◌<◌}
use mathlib.Core.Path.{refl}
use native.Mathlib.Numerals.{add-one}
use native.Mathlib.Omega.{arith}
use Rattle.run_fill.proofs.PlaceLaws.{ringing_again}
use Rattle.run_fill.proofs.places.Goals as goal
use Rattle.run_fill.proofs.places.Goals.{In-loop-k}

-- FIFO k is one of the chain's.
inside : (c : In-loop-k) → suc c.loop-k.k < c.args.n
inside c = omega arith

pub loop-k-preserved : goal.loop-k-preserved
loop-k-preserved c =
    let h = inside (goal.at.loop-k-preserved c).In-loop-k in
    let f = rw (← add-one c.loop-k.k) at (c.requires.fits c.loop-k.k h) in
    let t = c.requires.tops_are c.loop-k.k h in
    ringing_again _ _ _ _ _ _ _ _ _ _ c.loop-k.invariant (omega (arith, h, c.requires.few)) f.0 refl c.place-g.ensures.0
    (λ z. c.place_behind.ensures _ _ z t (c.place-g.ensures.0 z))
