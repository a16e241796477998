use Rattle.model_sheet.specs.Frames.{padded}
use Rattle.model_sheet.specs.Numbers.{word_bytes}
use Rattle.model_sheet.specs.Writing.{kernel_line}
use Rattle.sheet_writer.proofs.kernel_row.Goals as goal

pub returns-in-Raw : goal.returns-in-Raw
unfolding padded kernel_line
returns-in-Raw c = rw c.in-Raw.is

pub returns-in-Difference : goal.returns-in-Difference
unfolding padded kernel_line
returns-in-Difference c = rw c.in-Difference.is

pub returns-in-Scaled : goal.returns-in-Scaled
unfolding padded kernel_line word_bytes
returns-in-Scaled c =
    rw (c.in-Scaled.is, c.put_word.ensures, c.bits_of.ensures)

pub returns-in-Blend : goal.returns-in-Blend
unfolding padded kernel_line word_bytes
returns-in-Blend c =
    rw (c.in-Blend.is, c.put_word-in-Blend.ensures, c.put_word-a.ensures, c.bits_of-in-Blend-2.ensures, c.bits_of-in-Blend.ensures)
