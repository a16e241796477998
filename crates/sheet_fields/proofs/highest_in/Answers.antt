use mathlib.Core.Path.{ap, ◌∙◌}
use Rattle.sheet_fields.proofs.FieldLaws.{four_highest}
use mir.Facts.{to_z-of_z}
use mir.Syntax.{w32}
use Rattle.model_sheet.specs.Numbers.{word_at, signed_word}
use Rattle.sheet_fields.proofs.highest_in.Goals as goal

pub returns : goal.returns
unfolding word_at
returns c =
    four_highest _ _ _ _ _
    (to_z-of_z {w = w32} {z = c.index.result} (record { sfits = c.index.type_inv }) ∙ c.index.ensures ∙ ap signed_word c.word.ensures)
    (to_z-of_z {w = w32} {z = c.index-2.result} (record { sfits = c.index-2.type_inv }) ∙ c.index-2.ensures ∙ ap signed_word c.word-2.ensures)
    (to_z-of_z {w = w32} {z = c.index-3.result} (record { sfits = c.index-3.type_inv }) ∙ c.index-3.ensures ∙ ap signed_word c.word-3.ensures)
    (to_z-of_z {w = w32} {z = c.index-4.result} (record { sfits = c.index-4.type_inv }) ∙ c.index-4.ensures ∙ ap signed_word c.word-4.ensures)
