use Rattle.rows.proofs.SpanLaws.{span_past, span_crossed, span_there}
use Rattle.rows.proofs.boxed.span_of.Goals as goal

pub returns-then-extent-last : goal.returns-then-extent-last
returns-then-extent-last c = span_past c.args.first c.args.last c.args.extent c.if-extent-last.true

pub returns-then-last-first : goal.returns-then-last-first
returns-then-last-first c = span_crossed c.args.first c.args.last c.args.extent c.if-last-first.true

pub returns : goal.returns
returns c = span_there c.args.first c.args.last c.args.extent c.if-extent-last.false c.if-last-first.false
