use Rattle.std.proofs.Common.{arith}
use Rattle.std.proofs.lemmas.Bool.Decides.{nat_tests}
use Rattle.zohmirka_words.specs.Words.{count_in}
use Rattle.zohmirka_words.proofs.count_in.Goals as goal

pub returns : goal.returns
unfolding count_in
returns c = grind (arith, nat_tests)
