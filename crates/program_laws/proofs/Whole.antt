-- What the programs write: the statements hold.
use mathlib.Core.List.{flatten}
use mathlib.Core.Path.{◌∙◌}
use native.Mathlib.Omega.{arith}
use Rattle.program_laws.specs.Whole.{turns, start_of, Writes, Ends, NothingElse, Buffers, ProgramLaws}
use Rattle.program_laws.proofs.StageSteps.{weight}
use Rattle.program_laws.proofs.Plan.{plan_writes}
use Rattle.program_laws.proofs.Loops.{read_fails}
use Rattle.program_laws.proofs.Waiting.{writes_first, reads_starved, stops_reading}
use Rattle.program_laws.proofs.Turns.{turns_hold, turns_end, start_holds, over_written, turns_write}

pub writes : Writes
writes blocks some lent n e = over_written (flatten blocks) (turns n (start_of blocks lent)) (turns_hold (flatten blocks) n (start_of blocks lent) (start_holds blocks some lent)) e

pub ends : Ends
unfolding start_of
ends blocks some lent = turns_end (flatten blocks) _ (start_of blocks lent) (start_holds blocks some lent) (omega arith)

pub nothing_else : NothingElse
nothing_else blocks some lent n =
    let input = flatten blocks in
    let l = turns n (start_of blocks lent) in
    let h = turns_hold input n (start_of blocks lent) (start_holds blocks some lent) in
    let more = turns_write (weight l) l in
    record {
      rest = more.rest;
      joined = more.joined ∙ over_written input (turns (weight l) l) (turns_hold input (weight l) l h) (turns_end input (weight l) l h (omega arith));
    }

pub buffers : Buffers
buffers = record { store = omega arith; cells = omega arith; words = omega arith; text = omega arith; plan_text_lem = omega arith }

pub program_laws : ProgramLaws
program_laws = record { writes = writes; ends = ends; nothing_else = nothing_else; writes_first = writes_first; reads_starved = reads_starved; stops_reading = stops_reading; read_fails = read_fails; plan_writes = plan_writes; buffers = buffers }
