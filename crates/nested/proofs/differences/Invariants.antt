-- `differences` adds the squares. Assumes nothing.
use mathlib.Core.Path.{◌≡◌}
use Rattle.model_run.specs.Kernels.{float, squared}
use Rattle.nested.specs.Nested.{word_in, sum_but}
use Rattle.nested.proofs.differences.Given as goal

abbrev pub invariant-loop-k : goal.invariant-loop-k
invariant-loop-k l =
    (l.c ≡ float (word_in l.words l.centre)) × (l.sum ≡ sum_but (λ i. squared (word_in l.words l.centre) (word_in l.words i)) l.centre l.k)
