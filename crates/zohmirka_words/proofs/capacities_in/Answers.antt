use mathlib.Core.Path.{◌∙◌}
use native.Mathlib.Omega.{arith}
use Rattle.zohmirka_words.proofs.WordLaws.{words_from}
use Rattle.zohmirka_words.proofs.capacities_in.Goals as goal

pub returns : goal.returns
returns c = c.copy_from_slice.ensures.after ∙ words_from c.args.words.now 134 31 (omega arith)
