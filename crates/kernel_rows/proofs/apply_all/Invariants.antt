-- `apply_all` writes what the kernel writes of each row. The loop's invariant: the rows that are left give what all give. Assumes nothing.
use Rattle.kernel_rows.proofs.GivenLaws.{Going}
use Rattle.kernel_rows.proofs.apply_all.Given as goal

abbrev pub invariant-loop-i : goal.invariant-loop-i
invariant-loop-i l =
    Going l.k l.centre l.terms l.writes l.n l.count l.wide l.batch l.at l.initial.out l.i l.out
