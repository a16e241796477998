-- How long the same filters move: the loop keeps `Spanning`. Assumes nothing.
use Rattle.loop_laws.specs.Passes.{of}
use Rattle.loop_laws.proofs.SpanLaws.{Spanning}
use Rattle.run_fill.proofs.span.Given as goal

abbrev pub invariant-loop-k : goal.invariant-loop-k
invariant-loop-k l = Spanning l.n l.size (of l.wants) (of l.caps) (of l.ps) (of l.goes) l.most l.t l.s l.sg l.k
