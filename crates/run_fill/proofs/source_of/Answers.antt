use borrow.Author.Rules.{rules}
use Rattle.loop_laws.proofs.SweepLaws.{source_first, source_later}
use Rattle.run_fill.proofs.source_of.Goals as goal

pub returns-then-k-eq0 : goal.returns-then-k-eq0
returns-then-k-eq0 c = search (rules, source_first)

pub returns : goal.returns
returns c = search (rules, source_later)
