use mathlib.Core.Path.{refl}
use Rattle.zohmirka_words.proofs.WordLaws.{bounds_of_words}
use Rattle.zohmirka_words.proofs.bounds_in.Goals as goal

pub returns : goal.returns
returns c = bounds_of_words _ _ _ _ refl c.indices_in.ensures c.indices_in-2.ensures
