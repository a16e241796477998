-- The loop's invariant: the greater of `span` and the heights from reference k on is the greatest of all.
use Prim.Native.Nat.{max}
use mathlib.Core.Path.{◌≡◌}
use Rattle.geometry.specs.Parts.{part, entry_at, entries_in}
use Rattle.windows.proofs.LowLaws.{span_above}
use Rattle.windows.proofs.lows.span_in.Given as goal

abbrev pub invariant-loop-k : goal.invariant-loop-k
invariant-loop-k l =
    max l.span (span_above l.low (part (λ i. entry_at l.offsets i l.d) l.k l.count)) ≡ span_above l.low (entries_in l.count l.offsets l.d)
