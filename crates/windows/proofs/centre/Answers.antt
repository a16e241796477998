use mathlib.Core.Path.{◌∙◌}
use Rattle.windows.proofs.OffsetLaws.{centre_held, no_centre_dims, no_centre_count}
use Rattle.windows.proofs.centre.Goals as goal

pub returns-then-dims-gt4 : goal.returns-then-dims-gt4
returns-then-dims-gt4 c = no_centre_dims c.args.dims c.args.window c.if-dims-gt4.true

pub returns-then-n-gt-MOST_REFERENCES : goal.returns-then-n-gt-MOST_REFERENCES
returns-then-n-gt-MOST_REFERENCES c = no_centre_count c.args.dims c.args.window c.if-n-gt-MOST_REFERENCES.true

pub returns : goal.returns
returns c =
    c.centre_in.ensures ∙ centre_held c.args.dims c.args.window c.if-dims-gt4.false c.if-n-gt-MOST_REFERENCES.false
