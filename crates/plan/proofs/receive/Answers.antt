use Rattle.std.proofs.Common.{sym, subst}
use Rattle.program_laws.specs.Loops.{Taking}
use Rattle.program_laws.proofs.Loops.{taking_start, taking_more, taking_ended, taking_back}
use Rattle.plan.proofs.receive.Goals as goal

pub loop-init : goal.loop-init
loop-init c = subst Taking (λ i. record { sheet = sym c.open-arriving.ensures i; rows = sym c.requires i }) taking_start

pub loop-preserved : goal.loop-preserved
loop-preserved c = taking_more _ c.loop.invariant _ _ c.take_block-arriving.ensures c.in-Ok-verdict.is

pub returns-after-loop : goal.returns-after-loop
returns-after-loop c = taking_ended _ c.loop.invariant

pub returns-then-len-eq0 : goal.returns-then-len-eq0
returns-then-len-eq0 c = taking_ended _ c.loop.invariant

pub returns-in-Err : goal.returns-in-Err
returns-in-Err c = taking_back _ c.loop.invariant _ _ _ c.take_block-arriving.ensures c.in-Err.is
