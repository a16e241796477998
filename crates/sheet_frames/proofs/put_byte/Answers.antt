use Rattle.sheet_frames.proofs.NumberLaws.{byte_ahead, byte_past, byte_upper, byte_lower}
use Rattle.sheet_frames.proofs.put_byte.Goals as goal

pub returns-then-len-lt3 : goal.returns-then-len-lt3
returns-then-len-lt3 c = byte_ahead _ _ _ c.if-len-lt3.true

pub returns-then-numbers-at : goal.returns-then-numbers-at
returns-then-numbers-at c = byte_past _ _ _ c.if-len-lt3.false c.if-numbers-at.true

pub returns-then-i-eq0 : goal.returns-then-i-eq0
returns-then-i-eq0 c = byte_upper _ _ _ c.if-len-lt3.false c.if-i-eq0.true

pub returns : goal.returns
returns c = byte_lower _ _ _ c.if-len-lt3.false c.if-i-eq0.false _ c.with_lower.ensures
