use Prim.Native.Nat.{ℕ, ◌+◌}
use mathlib.Core.Path.{ap}
use native.Mathlib.Omega.{arith}
use Rattle.model_run.specs.Store.{first_place}
use Rattle.run_prepare.specs.Prepared.{number_at, blank}
use Rattle.run_prepare.proofs.PreparePlaces.{no_place_lem, next_place}
use Rattle.run_prepare.proofs.PrepareFills.{filled_none, filled_more}
use Rattle.run_prepare.proofs.bases_of.Goals as goal

pub loop-k-init : goal.loop-k-init
loop-k-init c =
    let f = first_place (number_at c.args.caps.now) in
    (omega arith, no_place_lem (number_at c.args.caps.now), filled_none blank f, filled_none blank (λ i. f i + number_at c.args.caps.now i))

pub loop-k-preserved : goal.loop-k-preserved
loop-k-preserved c =
    let capacity = number_at c.args.caps.now in
    let k = c.loop-k.k in (
      omega (arith, c.requires.1 k),
      next_place capacity k c.loop-k.places c.loop-k.invariant.1,
      filled_more blank (first_place capacity) k c.loop-k.bases c.loop-k.places (omega arith) c.loop-k.invariant.1 c.loop-k.invariant.2,
      filled_more blank (λ i. first_place capacity i + capacity i) k c.loop-k.tops (c.loop-k.places + capacity k) (omega arith)
          (ap (λ (x : ℕ). x + capacity k) c.loop-k.invariant.1) c.loop-k.invariant.3,
    )
