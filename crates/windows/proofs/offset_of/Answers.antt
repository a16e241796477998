use borrow.Author.Rules.{rules}
use Rattle.geometry.proofs.EntryLaws.{entry_back}
use Rattle.windows.proofs.OffsetLaws.{no_offset, offset_there}
use Rattle.windows.proofs.offset_of.Goals as goal

pub returns-then-k-ge32 : goal.returns-then-k-ge32
returns-then-k-ge32 c = no_offset c.args.offsets.now c.args.k c.if-k-ge32.true

pub returns : goal.returns
returns c =
    offset_there c.args.offsets.now c.args.k _ _ _ _ c.if-k-ge32.false (entry_back _ (search rules)) (entry_back _ (search rules)) (entry_back _ (search rules)) (entry_back _ (search rules))
