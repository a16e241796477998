use native.Mathlib.Omega.{arith}
use Rattle.kernel_words.proofs.SumLaws.{add_none, add_split, add_rest, add_end}
use Rattle.kernel_rows.proofs.sum_of.Goals as goal

pub returns-in_default : goal.returns-in_default
returns-in_default g c t h = add_none t _ _ (rw c.in_default.is at c.split_first.ensures.cases)

pub loop-k-init : goal.loop-k-init
loop-k-init g c t h =
    rw (h _ _ c.term-sum.ensures, c.word_at.ensures) (add_split t _ _ _ _ (rw c.in-Some.is at c.split_first.ensures.cases).0)

pub loop-k-preserved : goal.loop-k-preserved
loop-k-preserved g c t h =
    rw (h _ _ c.term-sum-in-loop-k.ensures, c.word_at-in-loop-k.ensures)
    (add_rest t _ _ _ _ (rw c.in-Some.is at c.split_first.ensures.cases).0 _ _ (c.loop-k.invariant t h) c.loop-k-test.true)

pub returns : goal.returns
returns g c t h =
    add_end t _ _ _ _ (c.loop-k.invariant t h) (omega (arith, (rw c.in-Some.is at c.split_first.ensures.cases).1))
