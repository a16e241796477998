use mathlib.Core.Path.{refl, ◌∙◌}
use Rattle.zohmirka_words.proofs.WordLaws.{few_chain, chain_of_words}
use Rattle.zohmirka_words.proofs.chain_in.Goals as goal

pub returns-then-words-lt212 : goal.returns-then-words-lt212
returns-then-words-lt212 c = c.blank_chain.ensures ∙ few_chain _ c.if-words-lt212.true

pub returns : goal.returns
returns c =
    chain_of_words _ _ _ _ _ _ _ _ _ _ _ c.if-words-lt212.false refl refl c.count_in.ensures refl c.count_in-2.ensures c.offsets_in.ensures c.capacities_in.ensures c.bounds_in.ensures
    c.order_in.ensures c.kernel_in.ensures
