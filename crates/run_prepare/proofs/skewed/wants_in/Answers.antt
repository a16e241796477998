use mathlib.Core.Path.{refl}
use Rattle.std.proofs.lemmas.Grind.{common_steps}
use native.Mathlib.Omega.{arith}
use Rattle.run_prepare.proofs.PrepareFills.{filled_as}
use Rattle.run_prepare.proofs.PrepareWants.{few_filters, wants_here, wants_past}
use Rattle.run_prepare.proofs.skewed.wants_in.Goals as goal

pub returns-then-j-covered : goal.returns-then-j-covered
returns-then-j-covered c = λ t counted r.
    filled_as refl (λ k h. wants_here counted c.args.j k c.if-j-covered.true) (c.reads_at.ensures t r (omega (arith, c.if-j-covered.true, counted.iterations_are)))

pub returns-else-j-covered : goal.returns-else-j-covered
returns-else-j-covered c = λ t counted r.
    filled_as refl (λ k h. wants_past counted c.args.j k c.if-j-covered.false) (let few = few_filters counted in grind (arith, common_steps))
