-- `fire_all` makes the firings one after the other. Assumes nothing.
-- ---- raw
-- ---- the other kernels
use Rattle.loop_laws.specs.Passes.{heads}
use Rattle.run_glide.specs.Glides.{Blank}
use Rattle.run_glide.proofs.ManyLaws.{Fired}
use Rattle.run_glide.proofs.fire_all.Given as goal

abbrev pub invariant-loop-i : goal.invariant-loop-i
invariant-loop-i l =
    Fired l.kernel l.centre l.n l.width l.from l.o l.count l.bases l.tops l.cells l.initial.puts (heads l.full l.initial.puts l.initial.gets) l.initial.store l.initial.out l.terms l.puts (heads l.full l.puts l.gets) l.store l.out l.at l.i × Blank l.n l.row
