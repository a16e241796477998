use Rattle.model_sheet.specs.Numbers.{half_at}
use Rattle.sheet_fields.proofs.row_count_in.Goals as goal

pub returns : goal.returns
unfolding half_at
returns c = c.half.ensures
