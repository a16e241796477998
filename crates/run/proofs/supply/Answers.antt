use Rattle.std.proofs.Common.{rules, ◌≡◌, ◌<◌, ◌^◌, not, sym, ◌∙◌, ap, refl, arith, pos, negsuc, w64, to_z, ℤ}
use Rattle.std.proofs.Math.Facts.{to_z_pos}
use Rattle.program_jobs.specs.Jobs.{after_read, wants_input}
use Rattle.program_laws.proofs.Loops.{not_wanted, read_made}
use Rattle.run.proofs.supply.Goals as goal

pub returns-then-not-wants_input-clause-supplied : goal.returns-then-not-wants_input-clause-supplied
unfolding wants_input
returns-then-not-wants_input-clause-supplied c =
    not_wanted c.args.job c.args.at c.args.len c.args.block.now (ap not (sym c.wants_input.ensures ∙ c.if-not-wants_input.true))

pub returns-in-Ok-clause-supplied : goal.returns-in-Ok-clause-supplied
unfolding wants_input
returns-in-Ok-clause-supplied c =
    let small : c.in-Ok.n < 2 ^ 63 = search rules in
    let same : to_z w64 c.in-Ok.n ≡ pos c.in-Ok.n = to_z_pos w64 small in
    read_made c.args.job c.args.at c.args.len c.args.block.now c.if-at-len.false
    (ap not (sym c.wants_input.ensures ∙ c.if-not-wants_input.false)) (pos c.in-Ok.n) (omega (arith, c.in-Ok.ensures.bound.0, c.read.auto.buf)) _ _ _
    (c.after_read.ensures ∙ ap (λ (z : ℤ). after_read z c.args.job) same) refl

pub returns-in-Err-clause-supplied : goal.returns-in-Err-clause-supplied
unfolding wants_input
returns-in-Err-clause-supplied c =
    read_made c.args.job c.args.at c.args.len c.args.block.now c.if-at-len.false
    (ap not (sym c.wants_input.ensures ∙ c.if-not-wants_input.false)) (negsuc 0) (omega arith) _ _ _
    c.after_read-in-Err.ensures refl
