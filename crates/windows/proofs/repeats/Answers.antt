use mathlib.Core.Path.{◌∙◌}
use Rattle.windows.proofs.OffsetLaws.{repeats_held, no_repeats_dims, no_repeats_count}
use Rattle.windows.proofs.repeats.Goals as goal

pub returns-then-dims-gt4 : goal.returns-then-dims-gt4
returns-then-dims-gt4 c = no_repeats_dims c.args.dims c.args.window c.if-dims-gt4.true

pub returns-then-count-gt-MOST_REFERENCES : goal.returns-then-count-gt-MOST_REFERENCES
returns-then-count-gt-MOST_REFERENCES c = no_repeats_count c.args.dims c.args.window c.if-count-gt-MOST_REFERENCES.true

pub returns : goal.returns
returns c =
    c.repeats_in.ensures ∙ repeats_held c.args.dims c.args.window c.if-dims-gt4.false c.if-count-gt-MOST_REFERENCES.false
