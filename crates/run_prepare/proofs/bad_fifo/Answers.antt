use mathlib.Core.Path.{◌∙◌}
use native.Mathlib.Omega.{arith}
use borrow.Author.Tests.{lt-ltb}
use Rattle.run_prepare.proofs.PrepareStates.{last_filter, below_next, by_capacity}
use Rattle.run_prepare.proofs.bad_fifo.Goals as goal

pub returns-then-n-k : goal.returns-then-n-k
returns-then-n-k c = λ L e. last_filter L c.args.n c.args.k c.args.passed.now _ c.if-n-k.true

pub returns-then-here-next : goal.returns-then-here-next
returns-then-here-next c = λ L e.
    lt-ltb _ _ c.if-here-next.true ∙ below_next L c.args.n c.args.k c.args.passed.now c.if-n-k.false c.requires.2 _ c.if-here-next.true

pub returns-else-here-next : goal.returns-else-here-next
returns-else-here-next c = λ L e.
    let more = c.if-n-k.false in
    by_capacity L c.args.n c.args.k c.args.passed.now more c.requires.2 _ _ (e (omega arith)) c.if-here-next.false
