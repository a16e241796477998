-- `terms_of` gives the filters that the kernel adds. Assumes nothing.
use Rattle.model.specs.Lists.{tabulate}
use Rattle.model_run.specs.Kernels.{terms}
use Rattle.kernel_terms.specs.FilterTables.{table_of, all_but}
use Rattle.kernel_terms.proofs.terms_of.Goals as goal

pub returns-in-Raw : goal.returns-in-Raw
unfolding terms table_of tabulate
returns-in-Raw c = rw c.in-Raw.is

pub returns-in-Difference : goal.returns-in-Difference
unfolding terms all_but
returns-in-Difference c = rw (c.in-Difference.is, ← c.min-m.ensures) c.all_but.ensures

pub returns-in-Scaled : goal.returns-in-Scaled
unfolding terms all_but
returns-in-Scaled c = rw (c.in-Scaled.is, ← c.min-m.ensures) c.all_but-in-Scaled.ensures

pub returns-in-Blend : goal.returns-in-Blend
unfolding terms all_but
returns-in-Blend c = rw (c.in-Blend.is, ← c.min-m.ensures) c.all_but-in-Blend.ensures
