-- `word_at` gives a filter's word. Assumes nothing.
use native.Mathlib.Omega.{arith}
use Rattle.kernel_words.proofs.word_at.Goals as goal

pub offset_bounds-words-k : goal.offset_bounds-words-k
offset_bounds-words-k c = record { fits = omega (arith, c.ranges.k.fits) }

pub bounds-words-k : goal.bounds-words-k
bounds-words-k c = omega (arith, c.ranges.k.fits)
