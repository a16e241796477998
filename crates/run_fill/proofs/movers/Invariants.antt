-- Which filters move: the loop keeps `Looked`. Assumes nothing.
use Rattle.loop_laws.specs.Passes.{of}
use Rattle.loop_laws.proofs.LookLaws.{Looked}
use Rattle.run_fill.proofs.movers.Given as goal

abbrev pub invariant-loop-k : goal.invariant-loop-k
invariant-loop-k l = Looked l.n l.size (of l.wants) (of l.caps) (of l.ps) l.goes l.count l.behind l.k
