use Prim.Native.Nat.{◌+◌, ◌<◌}
use mathlib.Core.Path.{ap}
use native.Mathlib.Omega.{arith}
use lib.ListN.{length, drop, length-drop}
use Rattle.sheet_laws.proofs.LineLaws.{line_within}
use Rattle.program_intake.proofs.LineLaws.{ended_refused, ended_accepted, open_refused, open_accepted}
use Rattle.program_intake.proofs.take_line.Goals as goal
use Rattle.program_intake.proofs.take_line.Goals.{then-has_feed, else-has_feed}

pub overflow_add-end : goal.overflow_add-end
overflow_add-end c =
    record { fits = omega (arith, line_within (drop c.args.at c.args.block.now), length-drop c.args.at c.args.block.now, ap length c.line-piece.ensures) }

pub returns-in_default : goal.returns-in_default
returns-in_default c =
    elim c.if-has_feed.branch [
      | then-has_feed w ↦ rw w.behind-is (ended_refused _ _ _ _ _ _ c.line-piece.ensures w.if-has_feed.true _ c.in_default.is)
      | else-has_feed w ↦ rw w.behind-is (open_refused _ _ _ _ _ _ c.line-piece.ensures w.if-has_feed.false _ c.in_default.is)
    ]

pub returns-then-has_feed-2 : goal.returns-then-has_feed-2
returns-then-has_feed-2 c =
    let short : c.args.at + length c.line-piece.result.now < length c.args.block.now = c.if-has_feed-2.true in
    elim c.if-has_feed.branch [
      | then-has_feed w ↦
          rw w.behind-is
          (ended_accepted _ _ _ _ _ _ c.line-piece.ensures short c.in-Ok.is _ c.take_numbers.ensures
          c.more-open.result c.more-open.ensures c.close_line-arriving.result c.close_line-arriving.ensures)
      | else-has_feed w ↦ absurd (omega (arith, w.if-has_feed.false, short))
    ]

pub returns-else-has_feed-2 : goal.returns-else-has_feed-2
returns-else-has_feed-2 c =
    elim c.if-has_feed.branch [
      | then-has_feed w ↦ absurd (omega (arith, w.if-has_feed.true, c.if-has_feed-2.false))
      | else-has_feed w ↦
          rw w.behind-is
          (open_accepted _ _ _ _ _ _ c.line-piece.ensures c.if-has_feed-2.false c.in-Ok.is _ c.take_numbers.ensures
          c.more-open.result c.more-open.ensures c.lengthen-arriving.result c.lengthen-arriving.ensures)
    ]
