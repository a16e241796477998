-- `blend` adds a times the centre and b times the sum of the terms. Assumes nothing.
use Rattle.model_run.specs.Kernels.{blend}
use Rattle.kernel_words.specs.Sums.{sum_of_terms}
use Rattle.kernel_rows.proofs.blend.Goals as goal

pub returns : goal.returns
unfolding blend sum_of_terms
returns c =
    rw (c.word_of.ensures, c.sum_of_terms-others.ensures, c.float_of-c.ensures, c.word_at.ensures)
