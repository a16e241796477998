use mathlib.Core.Path.{ap, ◌∙◌}
use Rattle.sheet_fields.proofs.FieldLaws.{four_entries}
use mir.Facts.{to_z-of_z}
use mir.Syntax.{w16}
use Rattle.model_sheet.specs.Numbers.{half_at, signed}
use Rattle.sheet_fields.proofs.entries_in.Goals as goal

pub returns : goal.returns
unfolding half_at
returns c =
    four_entries _ _ _ _ _
    (to_z-of_z {w = w16} {z = c.entry.result} (record { sfits = c.entry.type_inv }) ∙ c.entry.ensures ∙ ap signed c.half.ensures)
    (to_z-of_z {w = w16} {z = c.entry-2.result} (record { sfits = c.entry-2.type_inv }) ∙ c.entry-2.ensures ∙ ap signed c.half-2.ensures)
    (to_z-of_z {w = w16} {z = c.entry-3.result} (record { sfits = c.entry-3.type_inv }) ∙ c.entry-3.ensures ∙ ap signed c.half-3.ensures)
    (to_z-of_z {w = w16} {z = c.entry-4.result} (record { sfits = c.entry-4.type_inv }) ∙ c.entry-4.ensures ∙ ap signed c.half-4.ensures)
