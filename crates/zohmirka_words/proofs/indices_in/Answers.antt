use mathlib.Core.Path.{◌∙◌}
use mir.Facts.{to_z-of_z}
use mir.Syntax.{w32}
use Rattle.zohmirka_words.proofs.WordLaws.{indices_of_words}
use Rattle.zohmirka_words.proofs.indices_in.Goals as goal

pub returns : goal.returns
returns c =
    indices_of_words _ _ _ _ _ _
    (to_z-of_z {w = w32} {z = c.index.result} (record { sfits = c.index.type_inv }) ∙ c.index.ensures)
    (to_z-of_z {w = w32} {z = c.index-2.result} (record { sfits = c.index-2.type_inv }) ∙ c.index-2.ensures)
    (to_z-of_z {w = w32} {z = c.index-3.result} (record { sfits = c.index-3.type_inv }) ∙ c.index-3.ensures)
    (to_z-of_z {w = w32} {z = c.index-4.result} (record { sfits = c.index-4.type_inv }) ∙ c.index-4.ensures)
