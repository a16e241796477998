-- `scaled` multiplies the sum of the terms by the factor. Assumes nothing.
use Rattle.model_run.specs.Kernels.{scaled}
use Rattle.kernel_words.specs.Sums.{sum_of_terms}
use Rattle.kernel_rows.proofs.scaled.Goals as goal

pub returns : goal.returns
unfolding scaled sum_of_terms
returns c = rw (c.word_of.ensures, c.sum_of_terms-all.ensures)
