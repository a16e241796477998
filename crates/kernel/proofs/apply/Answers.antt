-- `apply` writes what the kernel writes, where it fits. Assumes nothing.
use native.Mathlib.Omega.{arith}
use Rattle.model_run.specs.Kernels.{written, width}
use Rattle.kernel.proofs.AppliedLaws.{past_end, no_room, all_words_lem, one_word}
use Rattle.kernel.proofs.apply.Goals as goal

pub returns-then-out-at : goal.returns-then-out-at
returns-then-out-at c = past_end _ _ _ _ _ _ _ c.if-out-at.true

pub returns-then-out-at-2 : goal.returns-then-out-at-2
returns-then-out-at-2 c = no_room _ _ _ _ _ _ _ c.width.ensures c.if-out-at.false c.if-out-at-2.true

pub copy-requires : goal.copy-requires
unfolding width
copy-requires c =
    let h = rw c.in-Raw.is at c.width.ensures in
    omega (arith, c.if-out-at-2.false, c.if-out-at.false)

pub bounds-out-at : goal.bounds-out-at
unfolding width
bounds-out-at c =
    let h = rw c.in-Difference.is at c.width.ensures in
    omega (arith, c.if-out-at-2.false, c.if-out-at.false)

pub bounds-out-at-in-Scaled : goal.bounds-out-at-in-Scaled
unfolding width
bounds-out-at-in-Scaled c =
    let h = rw c.in-Scaled.is at c.width.ensures in
    omega (arith, c.if-out-at-2.false, c.if-out-at.false)

pub bounds-out-at-in-Blend : goal.bounds-out-at-in-Blend
unfolding width
bounds-out-at-in-Blend c =
    let h = rw c.in-Blend.is at c.width.ensures in
    omega (arith, c.if-out-at-2.false, c.if-out-at.false)

pub returns-in-Raw : goal.returns-in-Raw
unfolding written
returns-in-Raw c =
    rw c.copy.ensures (all_words_lem _ _ _ _ _ _ _ c.width.ensures c.if-out-at.false c.if-out-at-2.false (rw c.in-Raw.is))

pub returns-in-Difference : goal.returns-in-Difference
unfolding written
returns-in-Difference c =
    one_word _ _ _ _ _ _ _ c.width.ensures c.if-out-at.false _ c.if-out-at-2.false (rw (c.in-Difference.is, c.difference.ensures))

pub returns-in-Scaled : goal.returns-in-Scaled
unfolding written
returns-in-Scaled c =
    one_word _ _ _ _ _ _ _ c.width.ensures c.if-out-at.false _ c.if-out-at-2.false (rw (c.in-Scaled.is, c.scaled.ensures))

pub returns-in-Blend : goal.returns-in-Blend
unfolding written
returns-in-Blend c =
    one_word _ _ _ _ _ _ _ c.width.ensures c.if-out-at.false _ c.if-out-at-2.false (rw (c.in-Blend.is, c.blend.ensures))
