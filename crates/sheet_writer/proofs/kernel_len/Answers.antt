use Rattle.model_sheet.specs.Numbers.{word_bytes}
use Rattle.model_sheet.specs.Writing.{kernel_line}
use Rattle.sheet_writer.proofs.kernel_len.Goals as goal

pub returns-in-Raw : goal.returns-in-Raw
unfolding kernel_line
returns-in-Raw c = rw c.in-Raw.is

pub returns-in-Difference : goal.returns-in-Difference
unfolding kernel_line
returns-in-Difference c = rw c.in-Difference.is

pub returns-in-Scaled : goal.returns-in-Scaled
unfolding kernel_line word_bytes
returns-in-Scaled c = rw c.in-Scaled.is

pub returns-in-Blend : goal.returns-in-Blend
unfolding kernel_line word_bytes
returns-in-Blend c = rw c.in-Blend.is
