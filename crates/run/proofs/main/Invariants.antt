-- The variables are those of the definitions' turns.
use Rattle.std.proofs.Common.{◌≤◌, length, take}
use Rattle.program_laws.specs.Loops.{InLoop}
use Rattle.run.proofs.main.Given as goal

abbrev pub invariant-loop : goal.invariant-loop
invariant-loop l =
    (l.len ≤ length l.block) × InLoop l.job (take l.len l.block) l.at l.rows l.store l.cells l.words l.text
