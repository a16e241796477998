use Rattle.runner.specs.Loops.{Advanced}
use Rattle.runner.proofs.advance.Given as goal

abbrev pub invariant-loop-k : goal.invariant-loop-k
invariant-loop-k l = Advanced l.k l.m l.initial.ps l.ps
