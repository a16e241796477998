-- The loop's invariant: the references from i on decide.
use mathlib.Core.Bool.{not}
use mathlib.Core.Path.{◌≡◌}
use Rattle.model.specs.Lists.{any}
use Rattle.model.specs.Pairs.{member}
use Rattle.pair_windows.specs.Unions.{from_on, both_from_on}
use Rattle.pair_windows.proofs.lacks.Given as goal

abbrev pub invariant-loop-i : goal.invariant-loop-i
invariant-loop-i l =
    any (λ o. not (member (from_on l.dims l.chain 0) o)) (both_from_on l.dims l.first l.second l.i)
    ≡ any (λ o. not (member (from_on l.dims l.chain 0) o)) (both_from_on l.dims l.first l.second 0)
