use mathlib.Core.Path.{refl}
use native.Mathlib.Omega.{arith}
use Rattle.std.proofs.lemmas.Grind.{common_steps}
use Rattle.run_prepare.proofs.PrepareFills.{filled_as}
use Rattle.run_prepare.proofs.PrepareWants.{few_filters, can_walk, wants_at, wants_near, wants_past}
use Rattle.run_prepare.proofs.wants_of.Goals as goal

pub walk-way-requires : goal.walk-way-requires
walk-way-requires c = can_walk c.requires.1.1 c.args.j c.if-j-iterations.true

pub add_to_each-requires : goal.add_to_each-requires
add_to_each-requires c =
    let shaped = c.requires.1.1 in
    (few_filters shaped.counted, c.requires.0, wants_near shaped c.args.j c.walk-way.result c.walk-way.ensures c.if-j-iterations.true)

pub returns-then-j-iterations : goal.returns-then-j-iterations
returns-then-j-iterations c = λ t shaped.
    filled_as refl (wants_at shaped c.args.j c.walk-way.result c.walk-way.ensures c.if-j-iterations.true) c.add_to_each.ensures

pub returns-else-j-iterations : goal.returns-else-j-iterations
returns-else-j-iterations c = λ t shaped.
    filled_as refl (λ k h. wants_past shaped.counted c.args.j k c.if-j-iterations.false) (let few = few_filters shaped.counted in grind (arith, common_steps))
