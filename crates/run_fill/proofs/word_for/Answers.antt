use Rattle.loop_laws.proofs.TurnLaws.{word_first, word_later, gets_first, gets_later}
use Rattle.run_fill.proofs.word_for.Goals as goal

pub returns-then-k-eq0 : goal.returns-then-k-eq0
returns-then-k-eq0 c = (word_first _ _ _ _ c.if-k-eq0.true, gets_first _ _ _ _ c.if-k-eq0.true)

pub returns : goal.returns
returns c =
    (word_later _ _ _ _ c.if-k-eq0.false, gets_later _ _ _ _ _ c.if-k-eq0.false c.next_place.ensures)
