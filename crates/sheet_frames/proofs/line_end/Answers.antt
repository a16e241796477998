use native.Mathlib.Omega.{arith}
use Rattle.sheet_laws.proofs.LineLaws.{line_at_feed, line_goes_on, line_at_end}
use Rattle.sheet_frames.proofs.line_end.Goals as goal

pub returns-then-sheet-i-eq-LINE_FEED : goal.returns-then-sheet-i-eq-LINE_FEED
returns-then-sheet-i-eq-LINE_FEED c =
    omega (arith, line_at_feed c.args.sheet.now c.loop-i.i (omega arith) c.if-sheet-i-eq-LINE_FEED.true)

pub loop-i-preserved : goal.loop-i-preserved
loop-i-preserved c =
    omega (arith, line_goes_on c.args.sheet.now c.loop-i.i (omega arith) c.if-sheet-i-eq-LINE_FEED.false)

pub returns : goal.returns
returns c =
    omega (arith, line_at_end c.args.sheet.now c.loop-i.i (omega arith))
