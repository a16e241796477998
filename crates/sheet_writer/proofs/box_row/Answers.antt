use Rattle.model_sheet.specs.Frames.{padded}
use Rattle.model_sheet.specs.Numbers.{word_bytes}
use Rattle.model_sheet.specs.Writing.{index_pair}
use Rattle.sheet_laws.specs.Sections.{box_row}
use Rattle.sheet_writer.proofs.box_row.Goals as goal

pub returns : goal.returns
unfolding padded box_row index_pair word_bytes
returns c =
    rw (c.put_pair.ensures, c.put_pair-r.ensures, c.put_pair-q.ensures, c.put_pair-p.ensures)
