use Rattle.std.proofs.Common.{◌≡◌, ◌+◌, ◌-◌, sym, refl, ◌∙◌, arith}
use Rattle.case_runs.specs.CaseRuns.{course}
use Rattle.case_runs.proofs.CaseCalls.{last_call, one_call, no_calls}
use Rattle.case_runs.proofs.more.Goals as goal

pub loop-init : goal.loop-init
loop-init c = refl

pub returns-then-stops : goal.returns-then-stops
returns-then-stops c =
    last_call _ _ _ _ _ _ (course c.loop.r c.loop.store c.loop.out) c.call-r.result _ _ (omega arith) c.call-r.ensures (sym c.stops.ensures ∙ c.if-stops.true) ∙ c.loop.invariant

pub loop-preserved : goal.loop-preserved
loop-preserved c =
    let one_less : 100000 - (c.loop.counter + 1) ≡ 100000 - c.loop.counter - 1 = omega arith in
    rw one_less (one_call _ _ _ _ _ _ (course c.loop.r c.loop.store c.loop.out) c.call-r.result _ _ (omega arith) c.call-r.ensures (sym c.stops.ensures ∙ c.if-stops.false) ∙ c.loop.invariant)

pub returns : goal.returns
returns c = no_calls _ _ _ _ _ _ _ (omega arith) ∙ c.loop.invariant
