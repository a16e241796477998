use Rattle.zohmirka_words.specs.Words.{kernel_words}
use Rattle.zohmirka_words.proofs.kernel_words.Goals as goal

pub returns-in-Raw : goal.returns-in-Raw
unfolding kernel_words
returns-in-Raw c = rw c.in-Raw.is

pub returns-in-Difference : goal.returns-in-Difference
unfolding kernel_words
returns-in-Difference c = rw c.in-Difference.is

pub returns-in-Scaled : goal.returns-in-Scaled
unfolding kernel_words
returns-in-Scaled c = rw (c.in-Scaled.is, c.word_of.ensures)

pub returns-in-Blend : goal.returns-in-Blend
unfolding kernel_words
returns-in-Blend c = rw (c.in-Blend.is, c.word_of-in-Blend.ensures, c.word_of-in-Blend-2.ensures)
