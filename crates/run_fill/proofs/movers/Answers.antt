use Prim.Native.Nat.{◌-◌}
use mathlib.Core.Path.{◌∙◌}
use native.Mathlib.Omega.{arith}
use Rattle.loop_laws.proofs.SweepLaws.{source_before}
use Rattle.loop_laws.proofs.LookLaws.{looked_on, behind_most, next_least}
use Rattle.run_fill.proofs.movers.Goals as goal

pub room_for-b-requires : goal.room_for-b-requires
room_for-b-requires c =
    let s = c.loop-k.invariant in (
      omega (arith, s.range, c.requires.n_bound.0, c.loop-k-test.true),
      c.requires.by_index (c.loop-k.k - 1) (omega (arith, s.range, c.loop-k-test.true)),
      λ h. omega (arith, behind_most _ _ _ _ _ _ _ _ _ s (omega arith), c.requires.by_index c.loop-k.k (omega arith), c.requires.by_index_2 (c.loop-k.k - 1) (omega arith)),
    )

pub overflow_sub-g : goal.overflow_sub-g
overflow_sub-g c =
    omega (
      arith,
      next_least _ _ _ _ _ _ _ _ _ c.loop-k.invariant c.loop-k-test.true c.requires.n_bound.0 _ _ _ (c.source_of-src.ensures ∙ source_before _ c.args.ps.now (c.loop-k.k - 1))
          c.room_for-b.ensures c.turn-next.ensures,
    )

pub overflow_add-count : goal.overflow_add-count
overflow_add-count c =
    omega (
      arith,
      c.requires.n_bound.0,
      (looked_on _ _ _ _ _ _ _ _ _ c.loop-k.invariant c.loop-k-test.true c.requires.n_bound.0 _ _ _ (c.source_of-src.ensures ∙ source_before _ c.args.ps.now (c.loop-k.k - 1))
          c.room_for-b.ensures c.turn-next.ensures).few,
    )

pub loop-k-preserved : goal.loop-k-preserved
loop-k-preserved c =
    looked_on _ _ _ _ _ _ _ _ _ c.loop-k.invariant c.loop-k-test.true c.requires.n_bound.0 _ _ _ (c.source_of-src.ensures ∙ source_before _ c.args.ps.now (c.loop-k.k - 1))
    c.room_for-b.ensures c.turn-next.ensures
