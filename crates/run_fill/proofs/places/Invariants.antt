use Rattle.run_fill.proofs.PlaceLaws.{Ringing}
use Rattle.run_fill.proofs.places.Given as goal

abbrev pub invariant-loop-k : goal.invariant-loop-k
invariant-loop-k l = Ringing l.n l.bases l.caps l.ps l.puts l.gets l.k
