use borrow.Author.Rules.{rules}
use Rattle.model_run.specs.Kernels.{float}
use Rattle.kernel_words.specs.Sums.{sum_of_terms}
use Rattle.kernel_words.proofs.sum_of_terms.Goals as goal

pub returns : goal.returns
unfolding sum_of_terms
returns c = c.sum_of.ensures float (λ w x p. search rules)
