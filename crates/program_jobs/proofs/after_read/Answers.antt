use mathlib.Core.Path.{◌∙◌}
use Rattle.program_jobs.proofs.JobLaws.{read_failed, read_ended, read_given}
use Rattle.program_jobs.proofs.after_read.Goals as goal

pub returns-then-got-lt0 : goal.returns-then-got-lt0
returns-then-got-lt0 c = c.staged.ensures ∙ read_failed c.args.got c.args.j c.ranges.got c.if-got-lt0.true

pub returns-then-got-eq0 : goal.returns-then-got-eq0
returns-then-got-eq0 c = c.close_input.ensures ∙ read_ended c.args.got c.args.j c.ranges.got c.if-got-eq0.true

pub returns : goal.returns
returns c = read_given c.args.got c.args.j c.ranges.got c.if-got-lt0.false c.if-got-eq0.false
