-- The loop's invariant: the least of `low` and the entries from reference k on is the least of all.
use mathlib.Core.Path.{◌≡◌}
use Rattle.model.specs.Geometry.{least_from, least}
use Rattle.geometry.specs.Parts.{part, entry_at, entries_in}
use Rattle.windows.proofs.lows.low_in.Given as goal

abbrev pub invariant-loop-k : goal.invariant-loop-k
invariant-loop-k l =
    least_from l.low (part (λ i. entry_at l.offsets i l.d) l.k l.count) ≡ least (entries_in l.count l.offsets l.d)
