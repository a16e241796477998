use Rattle.model_sheet.specs.Numbers.{word_at}
use Rattle.sheet_fields.proofs.word_in.Goals as goal

pub returns : goal.returns
unfolding word_at
returns c = c.word.ensures
