use borrow.Author.Rules.{rules}
use Rattle.model_run.specs.Kernels.{squared}
use Rattle.kernel_words.specs.Sums.{sum_of_squares}
use Rattle.kernel_rows.proofs.sum_of_squares.Goals as goal

pub returns : goal.returns
unfolding sum_of_squares
returns c = rw (← c.word_at-c.ensures) (c.sum_of.ensures (λ w. squared c.word_at-c.result w) (λ w x p. search rules))
