use Rattle.model_sheet.specs.Frames.{padded}
use Rattle.model_sheet.specs.Numbers.{word_bytes}
use Rattle.model_sheet.specs.Writing.{capacity_line}
use Rattle.sheet_writer.proofs.capacity_row.Goals as goal

pub returns : goal.returns
unfolding padded capacity_line word_bytes
returns c = c.put_word.ensures
