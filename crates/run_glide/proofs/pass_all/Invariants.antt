-- `pass_all` makes the passes one after the other. Assumes nothing.
use mathlib.Core.List.{[]}
use Rattle.model.specs.declared.Kernel.TheVariants as kernels
use Rattle.loop_laws.specs.Passes.{heads}
use Rattle.run_glide.proofs.ManyLaws.{Fired}
use Rattle.run_glide.proofs.pass_all.Given as goal

abbrev pub invariant-loop-i : goal.invariant-loop-i
invariant-loop-i l =
    Fired kernels.Raw 0 l.n l.step l.from l.o l.count l.bases l.tops l.cells l.initial.puts (heads l.full l.initial.puts l.initial.gets) l.initial.store l.initial.words [] l.puts (heads l.full l.puts l.gets) l.store l.words l.at l.i
