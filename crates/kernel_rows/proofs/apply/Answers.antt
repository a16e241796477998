-- `apply` writes what the kernel writes of the row. Assumes nothing.
use native.Mathlib.Omega.{arith}
use Rattle.model_run.specs.Kernels.{written, width}
use Rattle.kernel_rows.proofs.apply.Goals as goal

pub copy-requires : goal.copy-requires
unfolding width
copy-requires c =
    let h = rw c.in-Raw.is at c.requires in
    omega arith

pub bounds-out-at : goal.bounds-out-at
unfolding width
bounds-out-at c =
    let h = rw c.in-Difference.is at c.requires in
    omega arith

pub bounds-out-at-in-Scaled : goal.bounds-out-at-in-Scaled
unfolding width
bounds-out-at-in-Scaled c =
    let h = rw c.in-Scaled.is at c.requires in
    omega arith

pub bounds-out-at-in-Blend : goal.bounds-out-at-in-Blend
unfolding width
bounds-out-at-in-Blend c =
    let h = rw c.in-Blend.is at c.requires in
    omega arith

pub returns-in-Raw : goal.returns-in-Raw
unfolding written
returns-in-Raw c =
    rw (c.copy.ensures, c.in-Raw.is)

pub returns-in-Difference : goal.returns-in-Difference
unfolding written
returns-in-Difference c =
    rw (c.in-Difference.is, c.difference.ensures)

pub returns-in-Scaled : goal.returns-in-Scaled
unfolding written
returns-in-Scaled c =
    rw (c.in-Scaled.is, c.scaled.ensures)

pub returns-in-Blend : goal.returns-in-Blend
unfolding written
returns-in-Blend c =
    rw (c.in-Blend.is, c.blend.ensures)
