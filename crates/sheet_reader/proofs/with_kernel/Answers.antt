use Rattle.model_sheet.specs.Reading.{with_kernel}
use Rattle.sheet_reader.proofs.with_kernel.Goals as goal

pub returns : goal.returns
unfolding with_kernel
returns c = rw (c.set_kernel.ensures, c.kernel_in-kernel.ensures)
