use native.Mathlib.Omega.{arith}
use Rattle.windows.specs.Offsets.{front}
use Rattle.pair_windows.proofs.UnionLaws.{appended_none, appended_one}
use Rattle.pair_windows.proofs.append.Goals as goal

pub returns-then-k-ge32 : goal.returns-then-k-ge32
returns-then-k-ge32 c = appended_none c.args.to.now c.args.k (front c.args.dims c.args.o) c.if-k-ge32.true

pub returns : goal.returns
returns c = appended_one c.args.to.now c.args.k c.args.dims _ c.args.o c.copy_from_slice.new.self c.if-k-ge32.false c.requires (omega arith) (omega arith) c.copy_from_slice.ensures.after
