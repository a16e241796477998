-- The loop's invariant: `iterations`, and what the rows from u on add, make the sum.
use Prim.Native.Nat.{◌+◌, ◌*◌, ◌≤◌}
use mathlib.Core.Path.{◌≡◌}
use Rattle.model.specs.Lists.{tabulate, sum}
use Rattle.model.specs.Values.{rows_of}
use Rattle.geometry.specs.Parts.{part}
use Rattle.rows.specs.Courses.{length_in}
use Rattle.rows.proofs.iterations_in.Given as goal

abbrev pub invariant-loop-u : goal.invariant-loop-u
invariant-loop-u l =
    (l.iterations ≤ 1024 * l.u)
    × (l.iterations + sum (part (length_in (rows_of l.count l.rows) l.down l.on l.n) l.u l.count)
    ≡ sum (tabulate l.count (length_in (rows_of l.count l.rows) l.down l.on l.n)))
