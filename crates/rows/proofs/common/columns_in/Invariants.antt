use Prim.Native.Nat.{◌+◌, ◌-◌}
use mathlib.Core.Path.{◌≡◌}
use Rattle.model.specs.Lists.{greatest}
use Rattle.model.specs.Courses.{smallest}
use Rattle.model.specs.Grounds.{row, end as end_of}
use Rattle.model.specs.Values.{rows_of}
use Rattle.geometry.specs.Parts.{part, number_at}
use Rattle.rows.proofs.common.columns_in.Given as goal

abbrev pub invariant-loop-k : goal.invariant-loop-k
invariant-loop-k l =
    (l.start ≡ greatest (part (λ i. (row (rows_of l.count l.rows) (number_at l.down i + l.u)).start - number_at l.on i) l.k l.n))
    × (l.end ≡ smallest (part (λ i. end_of (row (rows_of l.count l.rows) (number_at l.down i + l.u)) - number_at l.on i) l.k l.n))
