use mathlib.Core.Path.{◌∙◌, sym}
use Rattle.program_intake.proofs.ArrivingLaws.{on_first, on_later}
use Rattle.program_intake.proofs.take_numbers.Goals as goal

pub returns-then-is_first : goal.returns-then-is_first
returns-then-is_first c =
    c.more_numbers.ensures ∙ on_first _ _ _ _ (sym c.is_first.ensures ∙ c.if-is_first.true)

pub returns-else-is_first : goal.returns-else-is_first
returns-else-is_first c = on_later _ _ _ _ (sym c.is_first.ensures ∙ c.if-is_first.false)
