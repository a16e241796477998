use Rattle.program_writer.proofs.LineCalls.{no_width, great_width, some_fit}
use Rattle.program_writer.proofs.how_many.Goals as goal

pub returns-then-size-eq0 : goal.returns-then-size-eq0
returns-then-size-eq0 c = no_width _ _ _ _ _ c.if-size-eq0.true

pub returns-then-size-gt32 : goal.returns-then-size-gt32
returns-then-size-gt32 c = great_width _ _ _ _ _ c.if-size-eq0.false c.if-size-gt32.true

pub returns : goal.returns
returns c =
    rw (c.min-2.ensures, c.min.ensures, c.min-lines.ensures) (some_fit _ _ _ _ _ c.if-size-eq0.false c.if-size-gt32.false)
