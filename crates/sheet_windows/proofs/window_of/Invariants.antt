-- The loop's invariant: with the references from k on, what was put in gives the window of the name.
use Rattle.sheet_windows.proofs.NamedLaws.{From}
use Rattle.sheet_windows.proofs.window_of.Given as goal

abbrev pub invariant-loop-k : goal.invariant-loop-k
invariant-loop-k l = From l.name l.k l.offsets
