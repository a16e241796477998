-- `difference` writes the sum of the squares. Assumes nothing.
use Rattle.model_run.specs.Kernels.{difference}
use Rattle.kernel_words.specs.Sums.{sum_of_squares}
use Rattle.kernel_words.proofs.difference.Goals as goal

pub returns : goal.returns
unfolding difference sum_of_squares
returns c = rw (c.word_of.ensures, c.sum_of_squares.ensures)
