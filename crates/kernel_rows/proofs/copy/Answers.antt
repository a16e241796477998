use mathlib.Core.Path.{◌∙◌}
use Rattle.kernel.proofs.AppliedLaws.{copy_next, copy_end}
use Rattle.kernel_words.proofs.SumLaws.{word_there}
use Rattle.kernel_rows.proofs.copy.Goals as goal

pub loop-i-preserved : goal.loop-i-preserved
loop-i-preserved c =
    rw (c.word_at.ensures, ← word_there _ c.args.row.now _ c.loop-i-test.true) (copy_next _ _ _ _ _ c.loop-i-test.true ∙ c.loop-i.invariant)

pub returns : goal.returns
returns c = copy_end _ _ _ _ _ c.loop-i-test.false ∙ c.loop-i.invariant
