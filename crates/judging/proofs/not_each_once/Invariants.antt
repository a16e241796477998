-- The loop's invariant: the first t numbers are below n, each stands once, and they are marked.
use Rattle.geometry.specs.Parts.{number_at}
use Rattle.judging.proofs.SeenLaws.{Seen}
use Rattle.judging.proofs.not_each_once.Given as goal

abbrev pub invariant-loop-t : goal.invariant-loop-t
invariant-loop-t l = Seen l.n (number_at l.filters) l.t l.seen
