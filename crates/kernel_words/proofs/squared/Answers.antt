-- `squared` is the square of a difference. Assumes nothing.
use Rattle.model_run.specs.Kernels.{squared}
use Rattle.kernel_words.proofs.squared.Goals as goal

pub returns : goal.returns
unfolding squared
returns c = rw (c.float_of.ensures, c.float_of-2.ensures)
