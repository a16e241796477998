use Rattle.model_sheet.specs.Frames.{padded}
use Rattle.model_sheet.specs.Numbers.{word_bytes}
use Rattle.sheet_laws.specs.Sections.{grid_row}
use Rattle.sheet_writer.proofs.grid_row.Goals as goal

pub returns : goal.returns
unfolding padded grid_row word_bytes
returns c =
    rw (c.put_word.ensures, c.put_word-c.ensures, c.put_word-b.ensures, c.put_word-a.ensures)
