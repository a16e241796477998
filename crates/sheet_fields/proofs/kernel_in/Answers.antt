use mathlib.Core.Path.{ap, ◌∙◌}
use lib.Ieee.{of_bits, binary32}
use Rattle.sheet_fields.proofs.FieldLaws.{kernel_raw, kernel_difference, kernel_scaled, kernel_blend}
use Rattle.model_sheet.specs.Numbers.{word_at}
use Rattle.sheet_fields.proofs.kernel_in.Goals as goal

pub returns-then-which-eq0 : goal.returns-then-which-eq0
returns-then-which-eq0 c = kernel_raw _ c.if-which-eq0.true

pub returns-then-which-eq1 : goal.returns-then-which-eq1
returns-then-which-eq1 c = kernel_difference _ c.if-which-eq0.false c.if-which-eq1.true

pub returns-then-which-eq2 : goal.returns-then-which-eq2
unfolding word_at
returns-then-which-eq2 c =
    kernel_scaled _ c.if-which-eq0.false c.if-which-eq1.false _ (c.factor-a.ensures ∙ ap (of_bits binary32) c.word.ensures) c.if-which-eq2.true

pub returns : goal.returns
unfolding word_at
returns c =
    kernel_blend _ c.if-which-eq0.false c.if-which-eq1.false _ (c.factor-a.ensures ∙ ap (of_bits binary32) c.word.ensures) c.if-which-eq2.false _
    (c.factor-b.ensures ∙ ap (of_bits binary32) c.word-2.ensures)
