-- `pass` does what `pass_of` says. Assumes nothing.
use Rattle.loop_laws.proofs.PassLaws.{Passing}
use Rattle.run_glide.proofs.pass.Given as goal

abbrev pub invariant-loop-k : goal.invariant-loop-k
invariant-loop-k l = Passing l.bases l.tops l.initial.puts l.initial.gets l.initial.store l.initial.words l.word l.m l.puts l.gets l.store l.words l.carry l.k
