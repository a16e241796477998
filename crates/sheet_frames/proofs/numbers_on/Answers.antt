use Prim.Native.Nat.{◌+◌, ◌*◌}
use mathlib.Core.Path.{ap, ◌∙◌}
use lib.ListN.{set}
use Rattle.model_sheet.specs.Frames.{bytes_of}
use Rattle.sheet_frames.proofs.NumberLaws.{first_none, first_more, first_all, first_short}
use Rattle.sheet_frames.proofs.numbers_on.Goals as goal

pub loop-k-init : goal.loop-k-init
loop-k-init c = first_none (bytes_of c.args.line.now)

pub returns-then-line-i : goal.returns-then-line-i
returns-then-line-i c =
    c.loop-k.invariant ∙ first_short c.args.line.now c.loop-k.k c.if-line-i.true

pub loop-k-preserved : goal.loop-k-preserved
loop-k-preserved c =
    ap (λ numbers. set numbers c.loop-k.k (c.byte-high.result * 256 + c.byte.result)) c.loop-k.invariant
    ∙ first_more (bytes_of c.args.line.now) c.loop-k.k c.byte-high.result c.byte.result c.byte-high.ensures.0 c.byte.ensures.0

pub returns : goal.returns
returns c =
    c.loop-k.invariant ∙ first_all (bytes_of c.args.line.now) c.loop-k.k c.loop-k-test.false
