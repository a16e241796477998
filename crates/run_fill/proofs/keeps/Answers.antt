use native.Mathlib.Omega.{arith}
use Rattle.loop_laws.proofs.SpanLaws.{rests_wanted, rests_full, rests_still, keeps_moving}
use Rattle.run_fill.proofs.keeps.Goals as goal

pub returns-then-p-w : goal.returns-then-p-w
returns-then-p-w c = λ hs hb e m. (m, omega arith, rests_wanted _ _ _ _ _ _ _ _ c.if-g-eq0.true c.if-p-w.true)

pub returns-then-sg-eq0 : goal.returns-then-sg-eq0
returns-then-sg-eq0 c = λ hs hb e m. (m, omega arith, rests_still _ _ _ _ _ _ _ _ c.if-g-eq0.true hb c.requires.2 c.if-p-w.false e c.if-sg-eq0.true)

pub returns-then-p-s : goal.returns-then-p-s
returns-then-p-s c = λ hs hb e m. (m, omega arith, rests_full _ _ _ _ _ _ _ _ c.if-g-eq0.true hb c.requires.2 c.if-p-w.false e c.if-p-s.true)

pub returns : goal.returns
returns c = let pre = c.requires in keeps_moving _ _ _ _ _ _ _ _ _ _ _ c.if-g-eq0.false pre.0 pre.1 pre.2 c.min-t.ensures c.bounded-u.ensures c.bounded.ensures
