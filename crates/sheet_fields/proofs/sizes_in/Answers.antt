use Rattle.sheet_fields.proofs.FieldLaws.{four_sizes}
use Rattle.model_sheet.specs.Numbers.{word_at}
use Rattle.sheet_fields.proofs.sizes_in.Goals as goal

pub returns : goal.returns
unfolding word_at
returns c =
    four_sizes _ _ _ _ _ c.word.ensures c.word-2.ensures c.word-3.ensures c.word-4.ensures
