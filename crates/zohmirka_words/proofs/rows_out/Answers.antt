use native.Mathlib.Omega.{arith}
use Rattle.zohmirka_words.specs.Words.{word_at}
use Rattle.zohmirka_words.proofs.WordLaws.{front_none, front_more, few_row_places, rows_of_words}
use Rattle.zohmirka_words.proofs.rows_out.Goals as goal

pub returns-then-rows-places : goal.returns-then-rows-places
returns-then-rows-places c = few_row_places _ _ _ _ c.row_places-places.ensures c.if-rows-places.true

pub loop-i-init : goal.loop-i-init
loop-i-init c = front_none (word_at c.args.numbers.now) c.args.rows.now

pub loop-i-preserved : goal.loop-i-preserved
loop-i-preserved c = front_more _ c.loop-i.i _ c.loop-i.rows _ (omega arith) c.number_at.ensures c.loop-i.invariant

pub returns : goal.returns
returns c = rows_of_words _ _ _ _ c.row_places-places.ensures c.loop-i.i c.loop-i.rows (omega arith) (omega arith) c.if-rows-places.false c.loop-i.invariant
