use mathlib.Core.Path.{◌≡◌}
use Rattle.model.specs.Lists.{tabulate}
use Rattle.model.specs.Judging.{repeats}
use Rattle.geometry.specs.Parts.{part, offset_at}
use Rattle.windows.proofs.repeats_in.Given as goal

abbrev pub invariant-loop-k : goal.invariant-loop-k
invariant-loop-k l = repeats (part (offset_at l.dims l.offsets) l.k l.count) ≡ repeats (tabulate l.count (offset_at l.dims l.offsets))
