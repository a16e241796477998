-- `slide` makes the clocks of the call's definition, and is safe on any sound tables. Assumes nothing.
-- ---- a wait
-- ---- firings
use Prim.Native.Nat.{ℕ, ◌-◌}
use mathlib.Core.List.{List}
use Rattle.model_run.specs.Clock.{Layout}
use Rattle.loop_laws.specs.Passes.{heads}
use Rattle.run_glide.specs.Glides.{Blank, Starts, Glides}
use Rattle.run_glide.proofs.SlideLaws.{Slides}
use Rattle.run_glide.proofs.GlidingLaws.{Glide}
use Rattle.run_glide.proofs.slide.Given as goal

abbrev pub invariant-loop-fired : goal.invariant-loop-fired
invariant-loop-fired l =
    Slides l.n l.width l.iterations l.fired0 l.allowance l.bases l.tops l.cells l.initial.store l.initial.out l.puts (heads l.full l.puts l.gets) l.store l.out l.fired l.left l.taken l.o
    × Blank l.n l.spare
    × ((L : Layout) (write : List ℕ → List ℕ) (size : ℕ) (at wants caps passed : List ℕ) → Starts l.full l.n l.row l.fired0 l.first l.position l.wait0 l.left0 at wants caps passed
    → Glides L write l.kernel l.terms l.n l.row l.iterations size l.centre l.width l.fired0 l.dims at wants caps l.bases l.tops l.spans l.strides passed l.initial.puts l.initial.gets l.initial.store
    → Glide L write l.kernel l.terms l.n l.row l.iterations size l.centre l.width l.fired0 l.dims at wants caps l.bases l.tops l.spans l.strides passed l.initial.puts l.initial.gets l.initial.store l.cells l.initial.out l.allowance l.puts
    (heads l.full l.puts l.gets) l.store l.out l.fired l.wait l.left l.taken l.o)

abbrev pub decreases-loop-fired : goal.decreases-loop-fired
decreases-loop-fired l = l.allowance - l.taken
