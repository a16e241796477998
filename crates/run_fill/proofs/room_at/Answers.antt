use mathlib.Core.Path.{sym}
use native.Mathlib.Numerals.{add-one}
use native.Mathlib.Omega.{arith}
use Rattle.loop_laws.proofs.AgainLaws.{room_at_inner, room_at_last}
use Rattle.run_fill.proofs.room_at.Goals as goal

pub returns-then-k-n : goal.returns-then-k-n
returns-then-k-n c = rw (add-one, room_at_inner c.args.n c.args.k _ _ _ (omega (arith, c.if-k-n.true)))

pub returns : goal.returns
returns c = sym (room_at_last c.args.n c.args.k _ _ _ (omega (arith, c.if-k-n.false)))
