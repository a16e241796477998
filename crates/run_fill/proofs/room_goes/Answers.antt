use mathlib.Core.Path.{sym}
use native.Mathlib.Numerals.{add-one}
use native.Mathlib.Omega.{arith}
use Rattle.loop_laws.proofs.AgainLaws.{room_goes_inner, room_goes_last}
use Rattle.run_fill.proofs.room_goes.Goals as goal

pub returns-then-k-n : goal.returns-then-k-n
returns-then-k-n c = rw (add-one, room_goes_inner c.args.n c.args.k _ (omega (arith, c.if-k-n.true)))

pub returns : goal.returns
returns c = sym (room_goes_last c.args.n c.args.k _ (omega (arith, c.if-k-n.false)))
