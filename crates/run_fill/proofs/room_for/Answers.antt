use mathlib.Core.Path.{sym}
use native.Mathlib.Numerals.{add-one}
use native.Mathlib.Omega.{arith}
use Rattle.loop_laws.proofs.AgainLaws.{room_inner, room_last}
use Rattle.run_fill.proofs.room_for.Goals as goal

pub returns-then-k-n : goal.returns-then-k-n
returns-then-k-n c = sym (room_inner c.args.n c.args.k c.args.cap c.args.p c.args.q (omega (arith, c.if-k-n.true)))

pub returns : goal.returns
returns c = rw (add-one, room_last c.args.n c.args.k c.args.cap c.args.p c.args.q (omega (arith, c.if-k-n.false)))
