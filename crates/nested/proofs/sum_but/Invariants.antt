-- `sum_but` adds the values. Assumes nothing.
use mathlib.Core.Path.{◌≡◌}
use Rattle.model_run.specs.Kernels.{float}
use Rattle.nested.specs.Nested.{word_in, sum_but}
use Rattle.nested.proofs.sum_but.Given as goal

abbrev pub invariant-loop-k : goal.invariant-loop-k
invariant-loop-k l = l.sum ≡ sum_but (λ i. float (word_in l.words i)) l.but l.k
