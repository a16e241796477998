-- The loop's invariant: of the references before i each is gathered that is none of the later ones.
use Prim.Native.Nat.{◌≤◌}
use Rattle.model.specs.Pairs.{distinct}
use Rattle.pair_windows.specs.Unions.{both_from_on}
use Rattle.pair_windows.proofs.UnionLaws.{Gathering}
use Rattle.pair_windows.proofs.gather.Given as goal

abbrev pub invariant-loop-i : goal.invariant-loop-i
invariant-loop-i l =
    (l.count ≤ l.i)
    × Gathering (distinct (both_from_on l.dims l.first l.second 0)) (both_from_on l.dims l.first l.second l.i) l.count l.offsets
