use mathlib.Core.Path.{refl, ◌∙◌}
use borrow.Author.Rules.{rules}
use Rattle.model_run.specs.Kernels.{words_at}
use Rattle.kernel_words.proofs.SumLaws.{word_there}
use Rattle.kernel.proofs.AppliedLaws.{copy_start, copy_next, copy_end}
use Rattle.kernel.proofs.copy.Goals as goal

pub loop-i-init : goal.loop-i-init
loop-i-init c =
    (search rules, copy_start c.args.out.now (words_at c.args.filters.now c.args.words.now) c.args.at _ refl)

pub loop-i-preserved : goal.loop-i-preserved
loop-i-preserved c =
    (search rules, rw (← word_there c.args.filters.now c.args.words.now c.loop-i.i c.loop-i-test.true) (copy_next _ _ _ _ _ c.loop-i-test.true ∙ c.loop-i.invariant.1))

pub returns : goal.returns
returns c = copy_end _ _ _ _ _ c.loop-i-test.false ∙ c.loop-i.invariant.1
