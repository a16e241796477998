use mathlib.Core.Path.{sym, ◌∙◌}
use Rattle.model.specs.Answers.{first_of}
use Rattle.model.specs.Judging.{kernel_checks, judge_behind}
use Rattle.judging.proofs.judge_total.Goals as goal

pub returns-then-lacks_centre : goal.returns-then-lacks_centre
unfolding judge_behind kernel_checks first_of
returns-then-lacks_centre c = rw (sym c.lacks_centre.ensures ∙ c.if-lacks_centre.true)

pub returns-then-bad_factor : goal.returns-then-bad_factor
unfolding judge_behind kernel_checks first_of
returns-then-bad_factor c =
    rw (sym c.lacks_centre.ensures ∙ c.if-lacks_centre.false, sym c.bad_factor.ensures ∙ c.if-bad_factor.true)

pub returns-then-too_large : goal.returns-then-too_large
unfolding judge_behind kernel_checks first_of
returns-then-too_large c =
    rw (sym c.lacks_centre.ensures ∙ c.if-lacks_centre.false, sym c.bad_factor.ensures ∙ c.if-bad_factor.false, sym c.too_large.ensures ∙ c.if-too_large.true)

pub returns : goal.returns
unfolding judge_behind kernel_checks first_of
returns c =
    rw (sym c.lacks_centre.ensures ∙ c.if-lacks_centre.false, sym c.bad_factor.ensures ∙ c.if-bad_factor.false, sym c.too_large.ensures ∙ c.if-too_large.false)
