use borrow.Author.Tests.{lt-ltb, le-ltb}
use Rattle.sheet_laws.specs.Sections.{part_behind, part_at}
use Rattle.sheet_writer.proofs.part_at.Goals as goal

pub returns-then-m-n : goal.returns-then-m-n
unfolding part_at
returns-then-m-n c = rw (lt-ltb _ _ c.if-m-n.true)

pub returns-then-m-ahead : goal.returns-then-m-ahead
unfolding part_at
returns-then-m-ahead c =
    rw (← c.to_capacities-ahead.ensures, le-ltb _ _ c.if-m-n.false, lt-ltb _ _ c.if-m-ahead.true)

pub returns-then-behind-n : goal.returns-then-behind-n
unfolding part_at part_behind
returns-then-behind-n c =
    rw (← c.to_capacities-ahead.ensures, le-ltb _ _ c.if-m-n.false, le-ltb _ _ c.if-m-ahead.false, lt-ltb _ _ c.if-behind-n.true)

pub returns-then-n-behind : goal.returns-then-n-behind
unfolding part_at part_behind
returns-then-n-behind c =
    rw (← c.to_capacities-ahead.ensures, le-ltb _ _ c.if-m-n.false, le-ltb _ _ c.if-m-ahead.false, le-ltb _ _ c.if-behind-n.false, le-ltb _ _ c.if-n-behind.true)

pub returns-then-ordered : goal.returns-then-ordered
unfolding part_at part_behind
returns-then-ordered c =
    rw (← c.to_capacities-ahead.ensures, le-ltb _ _ c.if-m-n.false, le-ltb _ _ c.if-m-ahead.false, le-ltb _ _ c.if-behind-n.false, lt-ltb _ _ c.if-n-behind.false, c.if-ordered.true)

pub returns : goal.returns
unfolding part_at part_behind
returns c =
    rw (← c.to_capacities-ahead.ensures, le-ltb _ _ c.if-m-n.false, le-ltb _ _ c.if-m-ahead.false, le-ltb _ _ c.if-behind-n.false, lt-ltb _ _ c.if-n-behind.false, c.if-ordered.false)
