use mathlib.Core.Path.{ap, ◌∙◌}
use lib.IntN.{pos}
use lib.ListN.{get_or}
use mir.Facts.{to_z-of_z}
use mir.Syntax.{w16}
use borrow.Author.Rules.{rules}
use Rattle.model_sheet.specs.Numbers.{pattern}
use Rattle.sheet_writer.proofs.pattern_at.Goals as goal

pub returns : goal.returns
returns c =
    c.pattern_of.ensures ∙ ap pattern (to_z-of_z {w = w16} {z = get_or c.args.w.offsets c.args.i (pos 0)} (record { sfits = search rules }))
