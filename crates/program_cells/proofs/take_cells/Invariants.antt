-- The loop's invariant: what is left to take, with the cells laid so far, is all that there was to take.
use mathlib.Core.Path.{◌≡◌}
use Rattle.program_cells.proofs.RoomLaws.{left_of}
use Rattle.program_cells.proofs.take_cells.Given as goal

abbrev pub invariant-loop-count : goal.invariant-loop-count
invariant-loop-count l =
    left_of l.frame l.begun l.block l.p l.count l.cells ≡ left_of l.initial.frame l.initial.begun l.block l.at 0 l.initial.cells
