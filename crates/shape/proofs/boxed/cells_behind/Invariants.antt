-- The loop's invariant: `cells`, and what the indices from d on add, make the sum.
use Prim.Native.Nat.{ℕ, ◌+◌, ◌*◌}
use mathlib.Core.Path.{◌≡◌}
use mathlib.Core.List.{List}
use Rattle.model.specs.Lists.{tabulate, sum}
use Rattle.geometry.specs.Parts.{part, number_at}
use Rattle.shape.proofs.boxed.cells_behind.Given as goal

-- How many cells the index of dimension d skips.
abbrev pub steps : (firsts strides : List ℕ) (d : ℕ) → ℕ
steps firsts strides d = number_at firsts d * number_at strides d

abbrev pub invariant-loop-d : goal.invariant-loop-d
invariant-loop-d l =
    l.cells + sum (part (steps l.firsts l.strides) l.d l.dims) ≡ sum (tabulate l.dims (steps l.firsts l.strides))
