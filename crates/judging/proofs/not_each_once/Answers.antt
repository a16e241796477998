use native.Mathlib.Omega.{arith}
use Rattle.geometry.specs.Parts.{number_at}
use Rattle.judging.proofs.SeenLaws.{seen_none, seen_all, seen_high, seen_twice}
use Rattle.judging.proofs.not_each_once.Goals as goal

pub loop-t-init : goal.loop-t-init
loop-t-init c = seen_none c.args.n (number_at c.args.filters.now)

pub returns-then-n-k : goal.returns-then-n-k
returns-then-n-k c =
    seen_high c.args.n (number_at c.args.filters.now) c.loop-t.t c.loop-t.seen c.requires c.loop-t.invariant (omega arith) (omega arith)

pub returns-then-seen-k : goal.returns-then-seen-k
returns-then-seen-k c =
    seen_twice c.args.n (number_at c.args.filters.now) c.loop-t.t c.loop-t.seen c.requires c.loop-t.invariant (omega arith) c.if-seen-k.true

pub returns : goal.returns
returns c =
    seen_all c.args.n (number_at c.args.filters.now) c.loop-t.t c.loop-t.seen c.requires c.loop-t.invariant (omega arith)
