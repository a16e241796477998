use native.Mathlib.Omega.{arith}
use Rattle.program_writer.proofs.RoomLaws.{room_bound}
use Rattle.program_writer.proofs.LineCalls.{too_wide, room_words}
use Rattle.program_writer.proofs.room_for.Goals as goal

pub returns-then-size-gt32 : goal.returns-then-size-gt32
returns-then-size-gt32 c = too_wide _ _ c.if-size-gt32.true

pub overflow_mul-result-2 : goal.overflow_mul-result-2
overflow_mul-result-2 c = record { fits = room_bound _ _ _ _ (omega arith) (omega arith) }

pub returns : goal.returns
returns c = room_words _ _ c.if-size-gt32.false
