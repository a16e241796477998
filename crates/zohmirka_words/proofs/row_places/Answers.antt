use Rattle.zohmirka_words.specs.Words.{row_places}
use Rattle.zohmirka_words.proofs.row_places.Goals as goal

pub returns-then-g : goal.returns-then-g
unfolding row_places
returns-then-g c = rw c.if-g.true

pub returns : goal.returns
unfolding row_places
returns c = rw c.if-g.false
