-- `give` writes what the kernel writes of each row, where it fits. Assumes nothing.
use Rattle.kernel_rows.proofs.GivenLaws.{room_of_lem, given_all, given_none}
use Rattle.kernel_rows.proofs.give.Goals as goal

pub apply_all-requires : goal.apply_all-requires
apply_all-requires c =
    room_of_lem c.width-wide.ensures c.room.ensures c.if-room.true

pub returns-then-room : goal.returns-then-room
returns-then-room c =
    given_all _ _ _ _ _ _ _ _ _ c.width-wide.ensures c.room.ensures c.if-room.true c.apply_all.ensures

pub returns-else-room : goal.returns-else-room
returns-else-room c =
    given_none _ _ _ _ _ _ _ _ _ c.width-wide.ensures c.room.ensures c.if-room.false
