-- The loop's invariant: the references from k on decide.
use mathlib.Core.Bool.{not}
use mathlib.Core.Path.{◌≡◌}
use Rattle.model.specs.Lists.{any}
use Rattle.model.specs.Pairs.{member}
use Rattle.pair_windows.specs.Unions.{from_on, both_from_on}
use Rattle.pair_windows.proofs.exceeds.Given as goal

abbrev pub invariant-loop-k : goal.invariant-loop-k
invariant-loop-k l =
    any (λ o. not (member (both_from_on l.dims l.first l.second 0) o)) (from_on l.dims l.chain l.k)
    ≡ any (λ o. not (member (both_from_on l.dims l.first l.second 0) o)) (from_on l.dims l.chain 0)
