use mathlib.Core.Path.{ap, ◌∙◌}
use Rattle.model_sheet.specs.Frames.{bytes_of}
use Rattle.model_sheet.specs.Reading.{numbers_on}
use Rattle.sheet_calls.proofs.ReaderLaws.{first_numbers_lem}
use Rattle.sheet_calls.proofs.rows_of.Goals as goal

pub returns : goal.returns
returns c = c.numbers_on.ensures ∙ ap (λ l. numbers_on (bytes_of l)) c.line.ensures ∙ first_numbers_lem _
