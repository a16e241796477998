use Rattle.zohmirka_words.proofs.WordLaws.{few_side, side_of_words}
use Rattle.zohmirka_words.proofs.side_in.Goals as goal

pub returns-then-words-lt132 : goal.returns-then-words-lt132
returns-then-words-lt132 c = few_side _ c.if-words-lt132.true

pub returns : goal.returns
returns c =
    side_of_words _ _ _ _ c.if-words-lt132.false c.count_in.ensures c.offsets_in.ensures c.kernel_in.ensures
